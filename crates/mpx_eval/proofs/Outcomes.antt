-- What a table's rows give is what the whole rows of the posts give that it shows.
use Rattle.std.proofs.Common.{◌≡◌, ℕ, Bool, true, false, ◌==◌, cond, List, [], ◌∷◌, map, Option, Some, None, refl, sym, ap, ◌∙◌}
use Rattle.std.specs.Prelude.{◌&&◌, is_some, option_and_then, slice_get}
use Rattle.std.specs.Option.{option_map, option_map_or}
use Rattle.std.proofs.lemmas.Bool.Decides.{Decides-eqb}
use Rattle.std.proofs.lemmas.Option.{option_and_then_some}
use Rattle.mpx_num.specs.declared.own.Operation.{Operation}
use Rattle.mpx_name.specs.declared.steps.Step.TheVariants.{Child}
use Rattle.mpx_name.specs.Name.{Name, same_name}
use Rattle.mpx_name.specs.Order.{name_equality}
use Rattle.mpx_birth.specs.Births.{BirthView, rank_in}
use Rattle.mpx_post.specs.Posts.{Given}
use Rattle.mpx_post.specs.Rows.{RowView, all_of}
use Rattle.mpx_value.specs.declared.outcomes.Outcome.{Outcome}
use Rattle.mpx_value.specs.Children.{ChildView, child, children, named_children, of_colour}
use Rattle.mpx_value.specs.Histories.{Answer, answer_with, birth_of, child_of, history_of, outcome_of, outcomes_by, posts_on, results_of, row_of, value_for}
use Rattle.mpx_value.proofs.NewCommunicators.{new_communicator}
use Rattle.mpx_value.specs.Values.{value}
use Rattle.mpx_rank.specs.Carriers.{outcomes_of}
use Rattle.mpx_eval.specs.Contexts.{ContextView, answer_by, answer_in, births_by, found, is_answered_in, row_in}
use Rattle.mpx_eval.specs.Tables.{Posted, TableShows, Table, answer_on, is_answered}
use Rattle.mpx_eval.proofs.Tables.{same_is}
use Rattle.mpx_value.proofs.Histories.{same_answer}

all_of-map : {A B C : Type 0} (f : B → Option A) (g : C → B) (xs : List C) → all_of f (map g xs) ≡ all_of (λ x. f (g x)) xs
all_of-map {A} f g [] = refl
all_of-map {A} f g (x ∷ xs) = ap (λ o. option_and_then (λ y. option_and_then (λ (ys : List A). Some (y ∷ ys)) o) (f (g x))) (all_of-map f g xs)

-- children of one call are told apart by their colours
same_child : (name : Name) (call a b : ℕ) → same_name (Child call a ∷ name) (Child call b ∷ name) ≡ (a == b)
same_child name call a b = by_tests (same_name (Child call a ∷ name) (Child call b ∷ name)) (a == b) refl refl where
  by_tests : (t u : Bool) → same_name (Child call a ∷ name) (Child call b ∷ name) ≡ t → (a == b) ≡ u → same_name (Child call a ∷ name) (Child call b ∷ name) ≡ (a == b)
  by_tests true true e f = e ∙ sym f
  by_tests false false e f = e ∙ sym f
  by_tests true false e f = let same : Child call a ∷ name ≡ Child call b ∷ name = same_is _ _ e in let is : a ≡ b = cc same in cc (f, (Decides-eqb a b).1 is)
  by_tests false true e f = cc (e, name_equality.reflexive (Child call a ∷ name), ap (λ c. same_name (Child call a ∷ name) (Child call c ∷ name)) ((Decides-eqb a b).0 f))

found_child : (name : Name) (call colour : ℕ) (xs : List ChildView) → found (Child call colour ∷ name) (named_children name call xs) ≡ of_colour colour xs
found_child name call colour [] = refl
found_child name call colour (x ∷ xs) = λ i. cond (same_child name call x.colour colour i) (Some x.birth) (found_child name call colour xs i)

-- where a row is whole its members are given something
given_where_whole : (ops : List Operation) (c : ContextView) (me : ℕ) (name : Name) (call : ℕ) → is_answered_in c me call ≡ is_some (answer_in ops c me name call)
given_where_whole ops c me name call = by_cases (rank_in me c.birth.members) (row_in c call) refl where
  by_cases : (rank : Option ℕ) (row : Option RowView) → rank_in me c.birth.members ≡ rank → (is_some rank && is_some row) ≡ is_some (option_and_then (λ r. answer_by ops c.birth me r name call) row)
  by_cases None None e = refl
  by_cases (Some rank) None e = refl
  by_cases None (Some row) e = sym (ap (λ o. is_some (option_map (answer_with (births_by ops c.birth row name call)) (option_and_then (λ rank. Some (value ops c.birth row name call rank)) o))) e)
  by_cases (Some rank) (Some row) e = sym (ap (λ o. is_some (option_map (answer_with (births_by ops c.birth row name call)) (option_and_then (λ r. Some (value ops c.birth row name call r)) o))) e)

pub given_there : (ops : List Operation) (t : Table) (me : ℕ) (name : Name) (call : ℕ) → is_answered t me name call ≡ is_some (answer_on ops t me name call)
given_there ops t me name call = by_context (t name) where
  by_context : (o : Option ContextView) → option_map_or (λ (c : ContextView). is_answered_in c me call) o false ≡ is_some (option_and_then (λ c. answer_in ops c me name call) o)
  by_context None = refl
  by_context (Some c) = given_where_whole ops c me name call

-- and its outcome is told
pub told_there : (ops : List Operation) (t : Table) (me : ℕ) (name : Name) (call : ℕ) → is_answered t me name call ≡ is_some (outcomes_of (answer_on ops t me) name call)
told_there ops t me name call = given_there ops t me name call ∙ by_answer (answer_on ops t me name call) where
  by_answer : (o : Option Answer) → is_some o ≡ is_some (option_map (λ (a : Answer). a.outcome) o)
  by_answer None = refl
  by_answer (Some answer) = refl

module _ (ops : List Operation) (ranks : ℕ) (t : Table) (made : Posted) (s : TableShows ops ranks t made) (me : ℕ) (name : Name) (call : ℕ) where
  -- what a whole row gives
  given_by_row : (birth : BirthView) (row : RowView) → birth_of (history_of ops made) ranks name ≡ Some birth → row_of (history_of ops made) name birth call ≡ Some row → answer_by ops birth me row name call ≡ option_map (answer_with (birth_of (history_of ops made) ranks)) (value_for ops birth me row name call)
  given_by_row birth row born whole = by_outcome (value_for ops birth me row name call) refl where
    by_outcome : (o : Option Outcome) → value_for ops birth me row name call ≡ o → option_map (answer_with (births_by ops birth row name call)) o ≡ option_map (answer_with (birth_of (history_of ops made) ranks)) o
    by_outcome None e = refl
    by_outcome (Some outcome) e = ap Some (same_answer (births_by ops birth row name call) (birth_of (history_of ops made) ranks) outcome (λ new size rank is.
        let i = new_communicator ops birth me row name call new size rank (e ∙ ap Some is) in
        ap (births_by ops birth row name call) i.named
        ∙ found_child name call i.child.colour (children ops birth row name call)
        ∙ sym (ap (option_and_then (λ x. child ops birth x name call i.child.colour)) whole)
        ∙ sym (ap (option_and_then (child_of (history_of ops made) name call i.child.colour)) born)
        ∙ sym (ap (birth_of (history_of ops made) ranks) i.named)))

  row_is : (c : ContextView) → t name ≡ Some c → row_in c call ≡ row_of (history_of ops made) name c.birth call
  row_is c e = ap (all_of (λ (posts : List Given). slice_get posts call)) (s.posts name c e) ∙ all_of-map (λ (posts : List Given). slice_get posts call) (λ member. posts_on name (made member)) c.birth.members

  on_context : (c : ContextView) → t name ≡ Some c → answer_in ops c me name call ≡ results_of (history_of ops made) ranks me name call
  on_context c e =
      let born = s.born name c e in
      by_row (row_of (history_of ops made) name c.birth call) (row_is c e) refl
      ∙ sym (ap (λ o. option_map (answer_with (birth_of (history_of ops made) ranks)) (option_and_then (λ birth. outcomes_by (history_of ops made) name birth me call) o)) born) where
        by_row : (o : Option RowView) → row_in c call ≡ o → row_of (history_of ops made) name c.birth call ≡ o → answer_in ops c me name call ≡ option_map (answer_with (birth_of (history_of ops made) ranks)) (outcomes_by (history_of ops made) name c.birth me call)
        by_row None f g = ap (option_and_then (λ row. answer_by ops c.birth me row name call)) f ∙ sym (ap (λ o. option_map (answer_with (birth_of (history_of ops made) ranks)) (option_and_then (λ row. value_for ops c.birth me row name call) o)) g)
        by_row (Some row) f g = ap (option_and_then (λ row. answer_by ops c.birth me row name call)) f ∙ given_by_row c.birth row (s.born name c e) g ∙ sym (ap (λ o. option_map (answer_with (birth_of (history_of ops made) ranks)) (option_and_then (λ row. value_for ops c.birth me row name call) o)) g)

  no_row : (members : List ℕ) (row : RowView) (rank : ℕ) → ((q : ℕ) → posts_on name (made q) ≡ []) → all_of ((history_of ops made).post name call) members ≡ Some row → rank_in me members ≡ Some rank → ⊥
  no_row [] row rank none e f = cc f
  no_row (m ∷ ms) row rank none e f = cc (ap (λ ps. option_and_then (λ x. option_and_then (λ (xs : List Given). Some (x ∷ xs)) (all_of ((history_of ops made).post name call) ms)) (slice_get ps call)) (sym (none m)) ∙ e)

  -- where nobody has posted there is no outcome
  nobody : t name ≡ None → results_of (history_of ops made) ranks me name call ≡ None
  nobody e = by_outcome (outcome_of (history_of ops made) ranks me name call) refl where
    by_outcome : (o : Option Outcome) → outcome_of (history_of ops made) ranks me name call ≡ o → option_map (answer_with (birth_of (history_of ops made) ranks)) (outcome_of (history_of ops made) ranks me name call) ≡ None
    by_outcome None f = ap (option_map (answer_with (birth_of (history_of ops made) ranks))) f
    by_outcome (Some outcome) f =
        option_and_then_some (λ birth. outcomes_by (history_of ops made) name birth me call) (birth_of (history_of ops made) ranks name) outcome f (λ birth born g.
        option_and_then_some (λ row. value_for ops birth me row name call) (row_of (history_of ops made) name birth call) outcome g (λ row whole k.
        option_and_then_some (λ rank. Some (value ops birth row name call rank)) (rank_in me birth.members) outcome k (λ rank member is.
        absurd (no_row birth.members row rank (s.none name e) whole member))))

  pub results_same : answer_on ops t me name call ≡ results_of (history_of ops made) ranks me name call
  results_same = by_context (t name) refl where
    by_context : (o : Option ContextView) → t name ≡ o → answer_on ops t me name call ≡ results_of (history_of ops made) ranks me name call
    by_context None e = ap (option_and_then (λ c. answer_in ops c me name call)) e ∙ sym (nobody e)
    by_context (Some c) e = ap (option_and_then (λ x. answer_in ops x me name call)) e ∙ on_context c e
