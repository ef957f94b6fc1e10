-- The last of a list that grows, and lists whose keys rise.
use Rattle.std.proofs.Common.{◌≡◌, ℕ, zero, suc, ◌-◌, Bool, true, false, ◌&&◌, cond, eqb, ltb, leb, List, [], ◌∷◌, ◌++◌, length, Option, Some, None, ◌+◌, ◌<◌, get_or, take, drop, drop-cons, refl, sym, ap, subst, ◌∙◌, arith, append_assoc, T}
use Rattle.std.specs.declared.cmp.Ordering.{Ordering}
use Rattle.std.specs.declared.cmp.Ordering.TheVariants.{Less, Equal, Greater}
use Rattle.std.specs.Ordering.{is_lt, nat_cmp}
use Rattle.std.specs.Cmp.{IsTotalOrder}
use Rattle.std.specs.FinMap.{is_sorted}
use Rattle.std.specs.FinMap.Entries.{below_all}
use Rattle.std.proofs.lemmas.Option.{slice_get-map}
use Rattle.std.specs.Prelude.{slice_get}
use Rattle.std.specs.Option.{option_map}
use Rattle.join_nest.specs.Seen.{seen}
use Rattle.join_nest.specs.Cut.{is_from}
use Rattle.std.proofs.lemmas.List.{append-nil, take_more, map_push}
use Rattle.mpx_format.specs.Format.{Format, many_fit}
use Rattle.mpx_format.specs.Rising.{may_come, last_of, entry, first_may, many_rising}
use Rattle.std.proofs.lemmas.Bool.{ltb-true, ltb-false, leb-true, le-leb, and_parts, and_from, or_from, not-true}
use Rattle.mpx_group.specs.Group.{has, has_twice}
use Rattle.mpx_group.proofs.Members.{has_twice-push}

module _ {K J V : Type 0} (R : K → K → Ordering) (least : Option K) (view : J → V) where
  by_key : (k : K) (last : Option (K × J)) → may_come R least (option_map (λ e. (e.0, view e.1)) last) k ≡ may_come R least last k
  by_key k None = refl
  by_key k (Some e) = refl

  pub len_seen : (es : List (K × J)) → length (seen view es) ≡ length es
  len_seen [] = refl
  len_seen (e ∷ es) = ap suc (len_seen es)

  last_seen : (es : List (K × J)) → last_of (seen view es) ≡ option_map (λ e. (e.0, view e.1)) (last_of es)
  last_seen es = ap (λ (n : ℕ). slice_get (seen view es) (n - 1)) (len_seen es) ∙ slice_get-map (λ e. (e.0, view e.1)) es (length es - 1)

  -- what may come next hangs on keys alone
  pub may_come_seen : (es : List (K × J)) (k : K) → may_come R least (last_of (seen view es)) k ≡ may_come R least (last_of es) k
  may_come_seen es k = ap (λ o. may_come R least o k) (last_seen es) ∙ by_key k (last_of es)

pub is_less : (r : Ordering) → is_lt r ≡ true → r ≡ Less
is_less Less e = refl
is_less Equal e = cc
is_less Greater e = cc

pub last_more : {A : Type 0} (x y : A) (xs : List A) → last_of (x ∷ y ∷ xs) ≡ last_of (y ∷ xs)
last_more x y xs =
    let k : length (x ∷ y ∷ xs) - 1 ≡ suc (length xs) = omega arith in
    let l : length (y ∷ xs) - 1 ≡ length xs = omega arith in
    ap (slice_get (x ∷ y ∷ xs)) k ∙ sym (ap (slice_get (y ∷ xs)) l)

module _ {K V : Type 0} {R : K → K → Ordering} (o : IsTotalOrder R) (least : Option K) where
  below_on : (x y : K) (es : List (K × V)) → is_lt (R x y) ≡ true → below_all R y es ≡ true → below_all R x es ≡ true
  below_on x y [] lt h = refl
  below_on x y (e ∷ es) lt h =
      and_from _ _ (ap is_lt (o.trans x y e.0 (is_less _ lt) (is_less _ (and_parts (is_lt (R y e.0)) (below_all R y es) h).0))) (below_on x y es lt (and_parts (is_lt (R y e.0)) (below_all R y es) h).1)

  -- a key that may come next is above all before it
  pub sorted_push : (es : List (K × V)) (e : K × V) → is_sorted R es ≡ true → may_come R least (last_of es) e.0 ≡ true → is_sorted R (es ++ e ∷ []) ≡ true
  sorted_push [] e s m = refl
  sorted_push (x ∷ []) e s m = and_from _ _ (and_from _ _ m refl) refl
  sorted_push (x ∷ y ∷ es) e s m =
      let rest = sorted_push (y ∷ es) e (and_parts (below_all R x.0 (y ∷ es)) (is_sorted R (y ∷ es)) s).1 (ap (λ l. may_come R least l e.0) (sym (last_more x y es)) ∙ m) in
      let lt = (and_parts (is_lt (R x.0 y.0)) (below_all R x.0 es) (and_parts (below_all R x.0 (y ∷ es)) (is_sorted R (y ∷ es)) s).0).0 in
      let below = (and_parts (below_all R y.0 (es ++ e ∷ [])) (is_sorted R (es ++ e ∷ [])) rest).0 in
      and_from _ _ (and_from _ _ lt (below_on x.0 y.0 (es ++ e ∷ []) lt below)) rest

pub first_push : {K V : Type 0} (R : K → K → Ordering) (least : Option K) (es : List (K × V)) (e : K × V) → first_may R least es ≡ true → may_come R least (last_of es) e.0 ≡ true → first_may R least (es ++ e ∷ []) ≡ true
first_push R least [] e first m = m
first_push R least (x ∷ es) e first m = first

pub is_below : (x y : ℕ) → is_lt (nat_cmp x y) ≡ ltb x y
is_below x y = elim (ltb x y) as (λ b. is_lt (cond b Less (cond (eqb x y) Equal Greater)) ≡ b) [
  | true ↦ refl
  | false ↦ elim (eqb x y) as (λ b. is_lt (cond b Equal Greater) ≡ false) [ true ↦ refl | false ↦ refl ]
]

from_below : {V : Type 0} (d x : ℕ) (es : List (ℕ × V)) → leb d x ≡ true → below_all nat_cmp x es ≡ true → is_from d es ≡ true
from_below d x [] le h = refl
from_below d x (e ∷ es) le h =
    let lt : x < e.0 = ltb-true x e.0 (sym (is_below x e.0) ∙ (and_parts (is_lt (nat_cmp x e.0)) (below_all nat_cmp x es) h).0) in
    and_from _ _ (le-leb d e.0 (omega (arith, leb-true d x le))) (from_below d x es le (and_parts (is_lt (nat_cmp x e.0)) (below_all nat_cmp x es) h).1)

-- calls that rise from a front on stand at or above it
pub from_first : {V : Type 0} (d : ℕ) (es : List (ℕ × V)) → is_sorted nat_cmp es ≡ true → first_may nat_cmp (Some d) es ≡ true → is_from d es ≡ true
from_first d [] s m = refl
from_first d (e ∷ es) s m =
    let le : leb d e.0 ≡ true = le-leb d e.0 (ltb-false e.0 d (sym (is_below e.0 d) ∙ not-true _ m)) in
    and_from _ _ le (from_below d e.0 es le (and_parts (below_all nat_cmp e.0 es) (is_sorted nat_cmp es) s).0)

-- a number that isn't listed may be listed
pub distinct_push : (xs : List ℕ) (x : ℕ) → has_twice xs ≡ false → has xs x ≡ false → has_twice (xs ++ x ∷ []) ≡ false
distinct_push xs x twice new = has_twice-push xs x ∙ or_from _ _ twice new

module _ {K V : Type 0} {R : K → K → Ordering} (o : IsTotalOrder R) (key : Format K) (value : Format V) (says : V → Bool) (least : Option K) where
  many_rise : (n : ℕ) (before es : List (K × V)) → is_sorted R before ≡ true → many_fit (entry R least key value says) n before es ≡ true → is_sorted R (before ++ es) ≡ true
  many_rise zero before [] s fits = rw (append-nil before) s
  many_rise zero before (e ∷ es) s fits = absurd cc
  many_rise (suc n) before [] s fits = absurd cc
  many_rise (suc n) before (e ∷ es) s fits =
      let now = (and_parts ((entry R least key value says before).fits e) (many_fit (entry R least key value says) n (before ++ e ∷ []) es) fits).0 in
      let then = (and_parts ((entry R least key value says before).fits e) (many_fit (entry R least key value says) n (before ++ e ∷ []) es) fits).1 in
      let m = (and_parts (key.fits e.0) (may_come R least (last_of before) e.0) (and_parts (key.fits e.0 && may_come R least (last_of before) e.0) (value.fits e.1) (and_parts ((key.fits e.0 && may_come R least (last_of before) e.0) && value.fits e.1) (says e.1) now).0).0).1 in
      subst (λ l. is_sorted R l ≡ true) (append_assoc before (e ∷ []) es) (many_rise n (before ++ e ∷ []) es (sorted_push o least before e s m) then)

  pub rising_first : (n : ℕ) (es : List (K × V)) → many_fit (entry R least key value says) n [] es ≡ true → first_may R least es ≡ true
  rising_first zero [] fits = refl
  rising_first zero (e ∷ es) fits = absurd cc
  rising_first (suc n) [] fits = absurd cc
  rising_first (suc n) (e ∷ es) fits =
      let now = (and_parts ((entry R least key value says []).fits e) (many_fit (entry R least key value says) n (e ∷ []) es) fits).0 in
      let m = may_come {V = V} R least None e.0 in
      (and_parts (key.fits e.0) m (and_parts (key.fits e.0 && m) (value.fits e.1) (and_parts ((key.fits e.0 && m) && value.fits e.1) (says e.1) now).0).0).1

  -- entries that fit strictly rise
  pub rising_sorted : (n : ℕ) (es : List (K × V)) → many_fit (entry R least key value says) n [] es ≡ true → T (is_sorted R es)
  rising_sorted n es fits = subst T (sym (many_rise n [] es refl fits)) tt

-- an entry, as its value says it
abbrev pub one : {K J V : Type 0} → (J → V) → K × J → K × V
one view e = (e.0, view e.1)

module _ {K J V : Type 0} (view : J → V) where
  -- the entry at a place, between those before it and those behind it
  pub behind : (es : List (K × J)) (i : ℕ) (e : K × J) → i < length es → e ≡ get_or es i e → seen view (drop i es) ≡ (e.0, view e.1) ∷ seen view (drop (i + 1) es)
  behind es i e lt is =
      let k : suc i ≡ i + 1 = omega arith in
      ap (seen view) (drop-cons es i e lt ∙ ap (λ n. get_or es i e ∷ drop n es) k ∙ ap (λ x. x ∷ drop (i + 1) es) (sym is))

  pub before_too : (es : List (K × J)) (i : ℕ) (e : K × J) → i < length es → e ≡ get_or es i e → seen view (take (i + 1) es) ≡ seen view (take i es) ++ (e.0, view e.1) ∷ []
  before_too es i e lt is = ap (seen view) (take_more es i e lt ∙ ap (λ x. take i es ++ x ∷ []) (sym is)) ∙ map_push _ (take i es) e

module _ {K V : Type 0} (R : K → K → Ordering) where
  comes_next : (before : List (K × V)) (e : K × V) (es : List (K × V)) → is_sorted R (before ++ e ∷ es) ≡ true → may_come R None (last_of before) e.0 ≡ true
  comes_next [] e es s = refl
  comes_next (x ∷ []) e es s = (and_parts (is_lt (R x.0 e.0)) (below_all R x.0 es) (and_parts (below_all R x.0 (e ∷ es)) (is_sorted R (e ∷ es)) s).0).0
  comes_next (x ∷ y ∷ before) e es s =
      ap (λ l. may_come R None l e.0) (last_more x y before) ∙ comes_next (y ∷ before) e es (and_parts (below_all R x.0 (y ∷ before ++ e ∷ es)) (is_sorted R (y ∷ before ++ e ∷ es)) s).1

  -- entries that are sorted may come one after the other
  pub sorted_rising : (before es : List (K × V)) → is_sorted R (before ++ es) ≡ true → many_rising R None before es ≡ true
  sorted_rising before [] s = refl
  sorted_rising before (e ∷ es) s =
      and_from _ _ (comes_next before e es s) (sorted_rising (before ++ e ∷ []) es (subst (λ l. is_sorted R l ≡ true) (sym (append_assoc before (e ∷ []) es)) s))
