-- Members and calls.
use Rattle.std.proofs.Common.{◌≡◌, ◌==◌, ◌&&◌, ℕ, zero, suc, ◌<◌, List, [], ◌∷◌, length, Option, Some, None, is_some, refl, sym, ap, ◌∙◌, arith}
use Rattle.std.specs.Prelude.{option_and_then, slice_index_or}
use Rattle.std.specs.Option.{option_map}
use Rattle.std.proofs.lemmas.Bool.{eqb-true}
use Rattle.std.proofs.lemmas.List.Quantifiers.{position-Some}
use Rattle.std.proofs.lemmas.Option.{option_and_then_some, same_Some}
use Rattle.mpx_group.specs.Group.{rank_in}
use Rattle.mpx_name.specs.Name.{Name}
use Rattle.mpx_num.specs.declared.own.Operation.{Operation}
use Rattle.mpx_birth.specs.Births.{BirthView}
use Rattle.mpx_board.specs.Boards.{Look, row_on, told}
use Rattle.mpx_post.specs.Agreement.{first_of}
use Rattle.mpx_post.specs.Posts.{Given}
use Rattle.mpx_post.specs.Posts.{nothing_given}
use Rattle.mpx_post.specs.Rows.{RowView, all_of}
use Rattle.mpx_value.specs.Children.{children, named_children}
use Rattle.mpx_value.specs.Histories.{value_for}
use Rattle.mpx_value.specs.Values.{value}
use Rattle.mpx_value.specs.declared.outcomes.Outcome.{Outcome}
use Rattle.mpx_node.specs.declared.finished.Finished.{Finished}
use Rattle.mpx_node.specs.Nodes.{children_on, or_none, result_of}

-- a row has as many posts as there are members
pub length-all_of : {A B : Type 0} (f : B → Option A) (ps : List B) (row : List A) → all_of f ps ≡ Some row → length row ≡ length ps
length-all_of f [] row e = sym (ap length (same_Some [] row e))
length-all_of {A} f (p ∷ ps) row e =
    option_and_then_some (λ x. option_and_then (λ xs. Some (x ∷ xs)) (all_of f ps)) (f p) row e (λ x fx g.
    option_and_then_some (λ xs. Some (x ∷ xs)) (all_of f ps) row g (λ xs fxs h.
    sym (ap length (same_Some (x ∷ xs) row h)) ∙ ap suc (length-all_of f ps xs fxs)))

-- a board's row has a post of each member
pub members_of_row : (f : ℕ → Option Given) (told : Option BirthView) (birth : BirthView) (row : RowView) → Some birth ≡ told → Some row ≡ option_and_then (λ (b : BirthView). all_of f b.members) told → length row ≡ length birth.members
members_of_row f told birth row is there =
    let whole : all_of f birth.members ≡ Some row = ap (option_and_then (λ (b : BirthView). all_of f b.members)) is ∙ sym there in
    length-all_of f birth.members row whole

-- a row has each member's post at its rank
pub at-all_of : {A B : Type 0} (f : B → Option A) (ps : List B) (row : List A) (i : ℕ) (p : B) (y : A) → i < length ps → all_of f ps ≡ Some row → f (slice_index_or ps i p) ≡ Some (slice_index_or row i y)
at-all_of f [] row i p y l e = absurd (omega (arith, l))
at-all_of {A} f (q ∷ ps) row zero p y l e =
    option_and_then_some (λ z. option_and_then (λ zs. Some (z ∷ zs)) (all_of f ps)) (f q) row e (λ z fz g.
    option_and_then_some (λ zs. Some (z ∷ zs)) (all_of f ps) row g (λ zs fzs h.
    fz ∙ ap (λ (r : List A). Some (slice_index_or r 0 y)) (same_Some (z ∷ zs) row h)))
at-all_of {A} f (q ∷ ps) row (suc i) p y l e =
    option_and_then_some (λ z. option_and_then (λ zs. Some (z ∷ zs)) (all_of f ps)) (f q) row e (λ z fz g.
    option_and_then_some (λ zs. Some (z ∷ zs)) (all_of f ps) row g (λ zs fzs h.
    at-all_of f ps zs i p y (omega (arith, l)) fzs ∙ ap (λ (r : List A). Some (slice_index_or r (suc i) y)) (same_Some (z ∷ zs) row h)))

-- where the first member's post is of a kind that makes no communicators, a call makes none
module _ (ops : List Operation) (board : Look) (name : Name) (call : ℕ) (birth : BirthView) (first : Given) where
  abbrev of_member : ℕ → Option Given
  of_member p = told ((board.contexts name).posts call p)

  abbrev MakesNone : Type 0
  MakesNone = (row : RowView) → first_of row ≡ first → children ops birth row name call ≡ []

  none_of_row : MakesNone → (p : ℕ) → 0 < length birth.members → of_member (slice_index_or birth.members 0 p) ≡ Some first → (r : Option RowView) → all_of of_member birth.members ≡ r → or_none (option_map (λ row. named_children name call (children ops birth row name call)) r) ≡ []
  none_of_row none p some is None e = refl
  none_of_row none p some is (Some row) e = ap (named_children name call) (none row (same_Some _ _ (sym (at-all_of of_member birth.members row 0 p nothing_given some e) ∙ is)))

  pub none_made : MakesNone → (p : ℕ) → 0 < length birth.members → of_member (slice_index_or birth.members 0 p) ≡ Some first → told (board.contexts name).birth ≡ Some birth → children_on ops board name call ≡ []
  none_made none p some is born =
      ap (λ (b : Option BirthView). or_none (option_and_then (λ (birth : BirthView). option_map (λ row. named_children name call (children ops birth row name call)) (option_and_then (λ (b : BirthView). all_of of_member b.members) b)) b)) born
      ∙ none_of_row none p some is (all_of of_member birth.members) refl

-- where the birth and the row are known, and the process is a member, its own post is too
module _ (ops : List Operation) (board : Look) (name : Name) (me call : ℕ) (birth : BirthView) where
  abbrev post_of : ℕ → Option Given
  post_of p = told ((board.contexts name).posts call p)

  own_known : (row : RowView) (rank : ℕ) → all_of post_of birth.members ≡ Some row → rank_in me birth.members ≡ Some rank → post_of me ≡ None → ⊥
  own_known row rank whole place none =
      let at = position-Some (λ q. q == me) birth.members rank 0 place in
      let is : slice_index_or birth.members rank 0 ≡ me = eqb-true _ _ at.1 in
      let some : Some (slice_index_or row rank nothing_given) ≡ None = sym (at-all_of post_of birth.members row rank 0 nothing_given at.0 whole) ∙ ap post_of is ∙ none in
      absurd cc

  abbrev result_with : Option RowView → Option ℕ → Option Given → Option Finished
  result_with row rank mine = option_and_then (λ (mine : Given). option_map (λ (outcome : Outcome). record { mine = mine; outcome = outcome }) (option_and_then (λ (row : RowView). option_and_then (λ (rank : ℕ). Some (value ops birth row name call rank)) rank) row)) mine

  there : (row : Option RowView) (rank : Option ℕ) (mine : Option Given) → all_of post_of birth.members ≡ row → rank_in me birth.members ≡ rank → post_of me ≡ mine → (is_some rank && is_some row) ≡ is_some (result_with row rank mine)
  there None None None whole place own = refl
  there None None (Some mine) whole place own = refl
  there None (Some rank) None whole place own = refl
  there None (Some rank) (Some mine) whole place own = refl
  there (Some row) None None whole place own = refl
  there (Some row) None (Some mine) whole place own = refl
  there (Some row) (Some rank) None whole place own = absurd (own_known row rank whole place own)
  there (Some row) (Some rank) (Some mine) whole place own = refl

  pub result_there : Some birth ≡ told (board.contexts name).birth → (is_some (rank_in me birth.members) && is_some (row_on board name call)) ≡ is_some (result_of ops board name me call)
  result_there is =
      ap (λ (b : Option BirthView). is_some (rank_in me birth.members) && is_some (option_and_then (λ (b : BirthView). all_of post_of b.members) b)) (sym is)
      ∙ there (all_of post_of birth.members) (rank_in me birth.members) (post_of me) refl refl refl
      ∙ ap (λ (o : Option BirthView). is_some {T = Finished} (option_and_then (λ (mine : Given). option_map (λ (outcome : Outcome). record { mine = mine; outcome = outcome }) (option_and_then (λ (birth : BirthView). option_and_then (λ (row : RowView). value_for ops birth me row name call) (option_and_then (λ (b : BirthView). all_of post_of b.members) o)) o)) (post_of me))) is
