-- The ranks of a child's members.
use Rattle.std.proofs.Common.{◌≡◌, ℕ, zero, suc, ◌+◌, ◌<◌, ◌≤◌, ◌==◌, Bool, true, List, [], ◌∷◌, ◌++◌, length, map, cond, get_or, Option, Some, None, refl, sym, ap, ◌∙◌, add-one, inl, inr, arith}
use Rattle.std.specs.Prelude.{filter, nat_eq, nat_lt, not}
use Rattle.std.specs.List.{All, cons_option, filter_map}
use Rattle.std.specs.Option.{option_eq}
use Rattle.std.proofs.lemmas.Bool.{and_parts, cases_eq, eq-eqb, ltb-true}
use Rattle.std.proofs.lemmas.List.{get_or_default, length-append, length-map, length_push, map_push}
use Rattle.std.proofs.lemmas.List.Elements.{All-cons, All-filter, All-map, All-nil, All-same, All-weaker, filter-append}
use Rattle.std.proofs.lemmas.List.Filters.{length-filter_both}
use Rattle.std.proofs.lemmas.List.Folds.{list_any_at}
use Rattle.std.proofs.lemmas.List.Sums.{AllPass-from_list_all}
use Rattle.mpx_group.specs.Group.{has}
use Rattle.mpx_group.proofs.Members.{length_distinct}
use Rattle.mpx_name.specs.declared.steps.Step.TheVariants.{Child}
use Rattle.mpx_name.specs.Name.{Name}
use Rattle.mpx_birth.specs.Births.{BirthView, upto}
use Rattle.mpx_post.specs.Posts.{colour_of, group_of, nothing_given}
use Rattle.mpx_post.specs.Rows.{RowView}
use Rattle.mpx_post.specs.Agreement.{IsFine, post_at}
use Rattle.mpx_post.proofs.Agreement.{fits_parts}
use Rattle.mpx_value.specs.Children.{ChildView, colours_of, gives_colour, lower_key, named_children, processes, ranks_with}
use Rattle.mpx_birth.specs.Orders.{ordered}
use Rattle.mpx_value.proofs.Distinct.{group-distinct}
use Rattle.mpx_value.proofs.Rising.{All-ordered, All-rising, below-upto, length-upto}
use Rattle.mpx_birth.proofs.Sorting.{length-ordered}

-- one more rank
pub filter_upto : (p : ℕ → Bool) (n : ℕ) → filter p (upto (n + 1)) ≡ filter p (upto n) ++ cond (p n) (n ∷ []) []
filter_upto p n = rw add-one (filter-append p (upto n) (n ∷ []))

pub split_ranks : (row : RowView) (colour : ℕ) → All (λ r. r < length row) (ordered (lower_key row) (ranks_with colour row))
split_ranks row colour =
    All-ordered (λ r. r < length row) (lower_key row) (ranks_with colour row)
    (All-filter (gives_colour colour row) (λ r. r < length row) (upto (length row)) (below-upto (length row)))

pub group_ranks : (row : RowView) (rank : ℕ) → IsFine row → rank < length row → All (λ r. r < length row) (group_of (post_at row rank))
group_ranks row rank fine l =
    let group = (fits_parts fine.topology (length row) rank (post_at row rank) (fine.with.each rank l).fit).group in
    All-weaker (λ r. nat_lt r (length row) ≡ true) (λ r. r < length row) (λ r t. ltb-true r (length row) t) _
    (AllPass-from_list_all (λ r. nat_lt r (length row)) (group_of (post_at row rank)) (and_parts _ _ group).1)

pub group_few : (row : RowView) (rank : ℕ) → IsFine row → rank < length row → length (group_of (post_at row rank)) ≤ length row
group_few row rank fine l =
    length_distinct (length row) (group_of (post_at row rank)) (group-distinct row rank fine l) (group_ranks row rank fine l)

-- the processes with ranks among the members are members
pub has-processes : (members ranks : List ℕ) → All (λ r. r < length members) ranks → All (λ p. has members p ≡ true) (processes members ranks)
has-processes members ranks within =
    All-map (λ p. has members p ≡ true) (λ r. get_or members r 0) ranks
    (All-weaker (λ r. r < length members) (λ r. has members (get_or members r 0) ≡ true)
    (λ r l. list_any_at (λ y. y == get_or members r 0) members r 0 l (eq-eqb _ _ refl)) ranks within)

pub has-members : (members : List ℕ) → All (λ p. has members p ≡ true) members
has-members members k d l = list_any_at (λ y. y == get_or members k d) members k d l (eq-eqb _ _ refl)

pub given_ranks : (row : RowView) (rank n : ℕ) (group : List ℕ) → IsFine row → rank < length row → length row ≡ n → group ≡ group_of (post_at row rank) → All (λ r. r < n) group
given_ranks row rank n group fine l long is =
    All-same (λ r. r < n) group (group_of (post_at row rank)) is
    (All-weaker (λ r. r < length row) (λ r. r < n) (λ r m. omega arith) (group_of (post_at row rank)) (group_ranks row rank fine l))

-- a group has few members
pub few_processes : (row : RowView) (rank : ℕ) (members group : List ℕ) → IsFine row → rank < length row → group ≡ group_of (post_at row rank) → length (processes members group) ≤ length row
few_processes row rank members group fine l is =
    omega (arith, length-map group (λ r. get_or members r 0), ap length is, group_few row rank fine l)

-- one more child
pub named_push : (name : Name) (call : ℕ) (make : ℕ → ChildView) (ns : List ℕ) (n : ℕ) → named_children name call (map make (ns ++ n ∷ [])) ≡ named_children name call (map make ns) ++ (Child call (make n).colour ∷ name, (make n).birth) ∷ []
named_push name call make ns n =
    ap (named_children name call) (map_push make ns n)
    ∙ map_push (λ (x : ChildView). let new : Name × BirthView = (Child call x.colour ∷ name, x.birth) in new) (map make ns) (make n)

-- WHO GIVES A COLOUR

some_below : (p : ℕ → Bool) (n r : ℕ) → r < n → p r ≡ true → 0 < length (filter p (upto n))
some_below p zero r l t = absurd (omega arith)
some_below p (suc n) r l t = elim (cases_eq r n) [
  | inl here ↦
      let e : filter p (upto (suc n)) ≡ filter p (upto n) ++ n ∷ [] = filter-append p (upto n) (n ∷ []) ∙ ap (λ (b : Bool). filter p (upto n) ++ cond b (n ∷ []) []) (ap p (sym here) ∙ t) in
      omega (arith, ap length e, length_push (filter p (upto n)) n)
  | inr other ↦
      omega (arith, ap length (filter-append p (upto n) (n ∷ [])), length-append (filter p (upto n)) (filter p (n ∷ [])), some_below p n r (omega (arith, other)) t)
]

All-filter_map : {A B : Type 0} (P : B → Type 0) (h : A → Option B) (xs : List A) → All (λ x. (y : B) → h x ≡ Some y → P y) xs → All P (filter_map h xs)
All-filter_map P h [] all = All-nil P
All-filter_map {A} {B} P h (x ∷ xs) all = by_answer (h x) refl (All-filter_map P h xs (λ k d l. all (suc k) d (omega arith))) where
  by_answer : (o : Option B) → h x ≡ o → All P (filter_map h xs) → All P (cons_option o (filter_map h xs))
  by_answer None e rest = rest
  by_answer (Some y) e rest = All-cons P y (filter_map h xs) (all 0 x (omega arith) y e) rest

given_by_some : (row : RowView) (rank colour : ℕ) → rank < length row → colour_of (post_at row rank) ≡ Some colour → 0 < length (ranks_with colour row)
given_by_some row rank colour l e =
    some_below (gives_colour colour row) (length row) rank l (ap (λ (o : Option ℕ). option_eq nat_eq o (Some colour)) e ∙ eq-eqb colour colour refl)

-- some rank gives each of the colours
pub colours-given : (row : RowView) → All (λ colour. 0 < length (ordered (lower_key row) (ranks_with colour row))) (colours_of row)
colours-given row =
    All-rising (λ colour. 0 < length (ordered (lower_key row) (ranks_with colour row))) (filter_map colour_of row)
    (All-filter_map (λ colour. 0 < length (ordered (lower_key row) (ranks_with colour row))) colour_of row
    (λ k d l colour e.
    omega (arith, length-ordered (lower_key row) (ranks_with colour row), given_by_some row k colour l (ap colour_of (get_or_default row k nothing_given d l) ∙ e))))

pub few_with : (row : RowView) (colour : ℕ) → length (ordered (lower_key row) (ranks_with colour row)) ≤ length row
few_with row colour =
    omega (arith, length-ordered (lower_key row) (ranks_with colour row), length-filter_both (gives_colour colour row) (λ r. not (gives_colour colour row r)) (λ r. refl) (upto (length row)), length-upto (length row))
