-- Lists in which no number stands twice.
use Rattle.std.proofs.Common.{◌≡◌, ℕ, ◌+◌, ◌<◌, ◌≤◌, Bool, true, false, not, ◌||◌, ◌==◌, List, [], ◌∷◌, ◌++◌, length, take, drop, get_or, filter, map, All, Some, ⊎_elim, refl, sym, ap, ◌∙◌, subst, eqb, arith}
use Rattle.std.specs.List.{IsDistinct, AllByRecursion}
use Rattle.std.proofs.lemmas.Bool.{true≢false, or_parts, or_from, or_left, or_right, not_from_true, cond_both, eq-eqb, ne_eqb, eqb-true, eqb-false, cases_order}
use Rattle.std.proofs.lemmas.List.{take-append-drop, take_more, length_push}
use Rattle.std.proofs.lemmas.List.Folds.{list_any-append, Any-from_list_any}
use Rattle.std.proofs.lemmas.List.Quantifiers.{position-Some}
use Rattle.std.proofs.lemmas.List.Elements.{All-filter, All-append, All-push, All-head, All-tail, All-map, All-weaker}
use Rattle.std.proofs.lemmas.Map.Keys.{apart_from_distinct}
use Rattle.std.proofs.lemmas.Map.Steps.{length-le_from_distinct_below}
use Rattle.mpx_group.specs.Group.{has, has_twice, IsGroup, rank_in, union_of}

has-filter_out : (p : ℕ → Bool) (xs : List ℕ) (x : ℕ) → p x ≡ false → has (filter p xs) x ≡ false
has-filter_out p [] x e = refl
has-filter_out p (y ∷ ys) x e =
    cond_both (p y) (y ∷ filter p ys) (filter p ys) (λ zs. has zs x ≡ false)
    (λ t. or_from _ _ (ne_eqb y x (λ q. true≢false (sym t ∙ ap p q ∙ e))) (has-filter_out p ys x e))
    (λ f. has-filter_out p ys x e)

has-filter : (p : ℕ → Bool) (xs : List ℕ) (x : ℕ) → has xs x ≡ false → has (filter p xs) x ≡ false
has-filter p [] x e = refl
has-filter p (y ∷ ys) x e =
    let parts = or_parts (y == x) (has ys x) e in
    cond_both (p y) (y ∷ filter p ys) (filter p ys) (λ zs. has zs x ≡ false)
    (λ t. or_from _ _ parts.0 (has-filter p ys x parts.1))
    (λ f. has-filter p ys x parts.1)

pub has_twice-filter : (p : ℕ → Bool) (xs : List ℕ) → has_twice xs ≡ false → has_twice (filter p xs) ≡ false
has_twice-filter p [] e = refl
has_twice-filter p (x ∷ xs) e =
    let parts = or_parts (has xs x) (has_twice xs) e in
    cond_both (p x) (x ∷ filter p xs) (filter p xs) (λ zs. has_twice zs ≡ false)
    (λ t. or_from _ _ (has-filter p xs x parts.0) (has_twice-filter p xs parts.1))
    (λ f. has_twice-filter p xs parts.1)

has_twice-append : (xs ys : List ℕ) → has_twice xs ≡ false → has_twice ys ≡ false → ((x : ℕ) → has xs x ≡ true → has ys x ≡ false) → has_twice (xs ++ ys) ≡ false
has_twice-append [] ys d e f = e
has_twice-append (x ∷ xs) ys d e f =
    let parts = or_parts (has xs x) (has_twice xs) d in
    or_from _ _ (list_any-append (λ y. y == x) xs ys ∙ or_from _ _ parts.0 (f x (or_left _ _ (eq-eqb x x refl))))
    (has_twice-append xs ys parts.1 e (λ y h. f y (or_right _ _ h)))

exchange : (a b c d : Bool) → ((a || (b || false)) || (c || d)) ≡ ((a || c) || (b || d))
exchange true b c d = refl
exchange false true true d = refl
exchange false true false d = refl
exchange false false c d = refl

eqb_comm : (x y : ℕ) → (x == y) ≡ (y == x)
eqb_comm x y = elim (x == y) as (λ b. (x == y) ≡ b → b ≡ (y == x)) [
  | true ↦ λ e. sym (eq-eqb y x (sym (eqb-true x y e)))
  | false ↦ λ e. sym (ne_eqb y x (λ q. eqb-false x y e (sym q)))
] refl

pub has_twice-push : (xs : List ℕ) (y : ℕ) → has_twice (xs ++ y ∷ []) ≡ (has_twice xs || has xs y)
has_twice-push [] y = refl
has_twice-push (x ∷ xs) y =
    rw (list_any-append (λ z. z == x) xs (y ∷ []), has_twice-push xs y, eqb_comm y x)
    (exchange (has xs x) (x == y) (has_twice xs) (has xs y))

pub has_twice-append_left : (xs ys : List ℕ) → has_twice xs ≡ true → has_twice (xs ++ ys) ≡ true
has_twice-append_left [] ys e = absurd (true≢false (sym e))
has_twice-append_left (x ∷ xs) ys e =
    elim (has xs x) as (λ b. has xs x ≡ b → (b || has_twice xs) ≡ true → (has (xs ++ ys) x || has_twice (xs ++ ys)) ≡ true) [
      | true ↦ λ h t. or_left _ _ (list_any-append (λ y. y == x) xs ys ∙ or_left _ _ h)
      | false ↦ λ h t. or_right _ _ (has_twice-append_left xs ys t)
    ] refl e

pub has_twice-take : (n : ℕ) (xs : List ℕ) → has_twice (take n xs) ≡ true → has_twice xs ≡ true
has_twice-take n xs e = subst (λ ys. has_twice ys ≡ true) (take-append-drop n xs) (has_twice-append_left (take n xs) (drop n xs) e)

-- the number at the next place stands before it
pub has_twice-found : (xs : List ℕ) (i x : ℕ) → i < length xs → x ≡ get_or xs i x → has (take i xs) x ≡ true → has_twice xs ≡ true
has_twice-found xs i x l is h =
    has_twice-take (i + 1) xs
    (rw (take_more xs i x l, ← is, has_twice-push (take i xs) x) (or_right _ _ h))

pub has_twice-more : (xs : List ℕ) (i x : ℕ) → i < length xs → x ≡ get_or xs i x → has_twice (take i xs) ≡ false → has (take i xs) x ≡ false → has_twice (take (i + 1) xs) ≡ false
has_twice-more xs i x l is d h =
    rw (take_more xs i x l, ← is, has_twice-push (take i xs) x) (or_from _ _ d h)

apart : (xs : List ℕ) (x : ℕ) → has xs x ≡ false → AllByRecursion (λ y. eqb x y ≡ false) xs
apart [] x e = tt
apart (y ∷ ys) x e =
    let parts = or_parts (y == x) (has ys x) e in
    (ne_eqb x y (λ q. eqb-false y x parts.0 (sym q)), apart ys x parts.1)

IsDistinct-from_has_twice : (xs : List ℕ) → has_twice xs ≡ false → IsDistinct eqb xs
unfolding IsDistinct
IsDistinct-from_has_twice [] e = tt
IsDistinct-from_has_twice (x ∷ xs) e =
    let parts = or_parts (has xs x) (has_twice xs) e in
    (apart xs x parts.0, IsDistinct-from_has_twice xs parts.1)

-- numbers below n that differ are at most n
pub length_distinct : (n : ℕ) (xs : List ℕ) → has_twice xs ≡ false → All (λ x. x < n) xs → length xs ≤ n
length_distinct n xs d below =
    length-le_from_distinct_below xs n (IsDistinct-from_has_twice xs d)
    (λ q h. let w = Any-from_list_any (eqb q) xs h in omega (arith, eqb-true q w.1 w.4, w.3, below w.0 w.1 w.2))

-- where one more number below n is new, there were fewer than n
pub length_distinct-new : (n : ℕ) (xs : List ℕ) (x : ℕ) → has_twice xs ≡ false → All (λ y. y < n) xs → has xs x ≡ false → x < n → length xs < n
length_distinct-new n xs x d below h l =
    omega (arith, length_push xs x, length_distinct n (xs ++ x ∷ []) (has_twice-push xs x ∙ or_from _ _ d h) (All-push (λ y. y < n) xs x below l))

pub IsGroup-from : (g : List ℕ) → has_twice g ≡ false → All (λ p. p < 64) g → IsGroup g
IsGroup-from g d below = record { distinct = d; below = below; few = length_distinct 64 g d below }

pub IsGroup-filter : (p : ℕ → Bool) (g : List ℕ) → IsGroup g → IsGroup (filter p g)
IsGroup-filter p g i = IsGroup-from _ (has_twice-filter p g i.distinct) (All-filter p (λ q. q < 64) g i.below)

pub IsGroup-union : (a b : List ℕ) → IsGroup a → IsGroup b → IsGroup (union_of a b)
IsGroup-union a b i j =
    let others = IsGroup-filter (λ p. not (has a p)) b j in
    IsGroup-from _
    (has_twice-append a _ i.distinct others.distinct (λ x h. has-filter_out (λ p. not (has a p)) b x (not_from_true _ h)))
    (All-append (λ q. q < 64) a _ i.below others.below)

-- different places hold different members
has-map : (g rs : List ℕ) (r : ℕ) → has_twice g ≡ false → r < length g → All (λ i. i < length g) rs → has rs r ≡ false → has (map (λ i. get_or g i 0) rs) (get_or g r 0) ≡ false
has-map g [] r d l all h = refl
has-map g (i ∷ rs) r d l all h =
    let parts = or_parts (i == r) (has rs r) h in
    let within = All-head (λ j. j < length g) i rs all in
    let places = IsDistinct-from_has_twice g d in
    or_from _ _
    (⊎_elim
    (λ e. absurd (eqb-false i r parts.0 e))
    (λ o. ⊎_elim (λ k. apart_from_distinct eqb g i r 0 places k l) (λ k. eqb_comm (get_or g i 0) (get_or g r 0) ∙ apart_from_distinct eqb g r i 0 places k within) o)
    (cases_order i r))
    (has-map g rs r d l (All-tail (λ j. j < length g) i rs all) parts.1)

has_twice-map : (g rs : List ℕ) → has_twice g ≡ false → All (λ i. i < length g) rs → has_twice rs ≡ false → has_twice (map (λ i. get_or g i 0) rs) ≡ false
has_twice-map g [] d all e = refl
has_twice-map g (r ∷ rs) d all e =
    let parts = or_parts (has rs r) (has_twice rs) e in
    let others = All-tail (λ j. j < length g) r rs all in
    or_from _ _ (has-map g rs r d (All-head (λ j. j < length g) r rs all) others parts.0) (has_twice-map g rs d others parts.1)

pub IsGroup-map : (g rs : List ℕ) → IsGroup g → All (λ i. i < length g) rs → has_twice rs ≡ false → IsGroup (map (λ i. get_or g i 0) rs)
IsGroup-map g rs i all e =
    IsGroup-from _ (has_twice-map g rs i.distinct all e)
    (All-map (λ p. p < 64) (λ r. get_or g r 0) rs (All-weaker (λ r. r < length g) (λ r. get_or g r 0 < 64) (λ r l. i.below r 0 l) rs all))

-- a member's rank is one of theirs
pub rank_in-below : (me : ℕ) (members : List ℕ) (rank : ℕ) → rank_in me members ≡ Some rank → rank < length members
rank_in-below me members rank e = (position-Some (λ q. q == me) members rank 0 e).0
