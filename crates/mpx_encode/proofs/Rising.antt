-- Entries in the rising order of their keys, and lists of values with one format.
use Rattle.std.proofs.Common.{◌≡◌, ℕ, zero, suc, ◌+◌, ◌≤◌, ◌<◌, Bool, true, not, ◌&&◌, leb, List, [], ◌∷◌, ◌++◌, length, Option, Some, None, refl, sym, ap, subst, ◌∙◌, arith, append_assoc}
use Rattle.std.specs.Prelude.{nat_lt}
use Rattle.std.specs.declared.cmp.Ordering.{Ordering}
use Rattle.std.specs.Ordering.{is_lt, nat_cmp}
use Rattle.std.specs.FinMap.{is_sorted}
use Rattle.std.specs.FinMap.Entries.{below_all}
use Rattle.std.specs.List.{flat_map, list_all}
use Rattle.std.proofs.lemmas.Bool.{ltb-true, le-ltb, leb-true}
use Rattle.join_core.specs.laws.Cases.{both_true, first_true, second_true}
use Rattle.join_nest.specs.Cut.{is_from}
use Rattle.mpx_format.specs.Format.{Format, many_fit, many_spelled}
use Rattle.mpx_format.specs.Rising.{may_come, last_of, entry, many_rising}
use Rattle.mpx_encode.specs.Entries.{entry_spelled, entries_spelled, both_pass}
use Rattle.mpx_format.proofs.Rows.{last_more, is_below}

-- VALUES ONE AFTER THE OTHER

module _ {V : Type 0} (f : List V → Format V) where
  -- values whose spelling doesn't hang on those before
  pub many_alike : (s : V → List ℕ) → ((before : List V) (v : V) → (f before).spelling v ≡ s v) → (before vs : List V) → many_spelled f before vs ≡ flat_map s vs
  many_alike s same before [] = refl
  many_alike s same before (v ∷ vs) = ap (λ l. l ++ many_spelled f (before ++ v ∷ []) vs) (same before v) ∙ ap (λ l. s v ++ l) (many_alike s same (before ++ v ∷ []) vs)

  -- what each value passes that fits
  pub many_pass : (p : V → Bool) → ((before : List V) (v : V) → (f before).fits v ≡ true → p v ≡ true) → (n : ℕ) (before vs : List V) → many_fit f n before vs ≡ true → list_all p vs ≡ true
  many_pass p each zero before [] h = refl
  many_pass p each zero before (v ∷ vs) h = absurd cc
  many_pass p each (suc n) before [] h = refl
  many_pass p each (suc n) before (v ∷ vs) h =
      both_true _ _ (each before v (first_true ((f before).fits v) (many_fit f n (before ++ v ∷ []) vs) h)) (many_pass p each n (before ++ v ∷ []) vs (second_true ((f before).fits v) (many_fit f n (before ++ v ∷ []) vs) h))

-- ENTRIES

module _ {K V : Type 0} (R : K → K → Ordering) (least : Option K) (key : Format K) (value : Format V) (says : V → Bool) where
  pub entries_alike : (es : List (K × V)) → many_spelled (entry R least key value says) [] es ≡ entries_spelled key value es
  entries_alike es = many_alike (entry R least key value says) (entry_spelled key value) (λ before e. refl) [] es

  passes : (before : List (K × V)) (e : K × V) → (entry R least key value says before).fits e ≡ true → (key.fits e.0 && value.fits e.1) ≡ true
  passes before e h =
      let m = may_come R least (last_of before) e.0 in
      let kv = first_true ((key.fits e.0 && m) && value.fits e.1) (says e.1) h in
      both_true _ _ (first_true (key.fits e.0) m (first_true (key.fits e.0 && m) (value.fits e.1) kv)) (second_true (key.fits e.0 && m) (value.fits e.1) kv)

  -- keys and values of entries that fit do
  pub entries_pass : (n : ℕ) (es : List (K × V)) → many_fit (entry R least key value says) n [] es ≡ true → both_pass key.fits value.fits es ≡ true
  entries_pass n es h = many_pass (entry R least key value says) (λ e. key.fits e.0 && value.fits e.1) passes n [] es h

  -- entries that rise, with keys and values that fit and say something
  pub entries_fit : (before es : List (K × V)) → many_rising R least before es ≡ true → both_pass key.fits value.fits es ≡ true → list_all (λ e. says e.1) es ≡ true → many_fit (entry R least key value says) (length es) before es ≡ true
  entries_fit before [] r f s = refl
  entries_fit before (e ∷ es) r f s =
      let m = may_come R least (last_of before) e.0 in
      let kv = first_true (key.fits e.0 && value.fits e.1) (both_pass key.fits value.fits es) f in
      both_true _ _
      (both_true _ _ (both_true _ _ (both_true _ _ (first_true (key.fits e.0) (value.fits e.1) kv) (first_true m (many_rising R least (before ++ e ∷ []) es) r)) (second_true (key.fits e.0) (value.fits e.1) kv)) (first_true (says e.1) (list_all (λ x. says x.1) es) s))
      (entries_fit (before ++ e ∷ []) es (second_true m (many_rising R least (before ++ e ∷ []) es) r) (second_true (key.fits e.0 && value.fits e.1) (both_pass key.fits value.fits es) f) (second_true (says e.1) (list_all (λ x. says x.1) es) s))

pub always_says : {K V : Type 0} (es : List (K × V)) → list_all (λ e. true) es ≡ true
always_says [] = refl
always_says (e ∷ es) = always_says es

-- KEYS THAT RISE

module _ {K V : Type 0} (R : K → K → Ordering) (least : Option K) where
  comes_next : (x : K × V) (before : List (K × V)) (e : K × V) (es : List (K × V)) → is_sorted R ((x ∷ before) ++ e ∷ es) ≡ true → may_come R least (last_of (x ∷ before)) e.0 ≡ true
  comes_next x [] e es s = first_true (is_lt (R x.0 e.0)) (below_all R x.0 es) (first_true (below_all R x.0 (e ∷ es)) (is_sorted R (e ∷ es)) s)
  comes_next x (y ∷ before) e es s =
      ap (λ l. may_come R least l e.0) (last_more x y before) ∙ comes_next y before e es (second_true (below_all R x.0 (y ∷ before ++ e ∷ es)) (is_sorted R (y ∷ before ++ e ∷ es)) s)

  rising_on : (x : K × V) (before es : List (K × V)) → is_sorted R ((x ∷ before) ++ es) ≡ true → many_rising R least (x ∷ before) es ≡ true
  rising_on x before [] s = refl
  rising_on x before (e ∷ es) s =
      both_true _ _ (comes_next x before e es s) (rising_on x (before ++ e ∷ []) es (subst (λ l. is_sorted R (x ∷ l) ≡ true) (sym (append_assoc before (e ∷ []) es)) s))

-- sorted entries may come one after the other
pub sorted_rising : {K V : Type 0} (R : K → K → Ordering) (es : List (K × V)) → is_sorted R es ≡ true → many_rising R None [] es ≡ true
sorted_rising R [] s = refl
sorted_rising R (e ∷ es) s = rising_on R None e [] es s

-- sorted entries from a number on may too
pub rising_from : {V : Type 0} (d : ℕ) (es : List (ℕ × V)) → is_sorted nat_cmp es ≡ true → is_from d es ≡ true → many_rising nat_cmp (Some d) [] es ≡ true
rising_from d [] s from = refl
rising_from d (e ∷ es) s from =
    both_true _ _ (ap not (is_below e.0 d ∙ le-ltb e.0 d (leb-true d e.0 (first_true (leb d e.0) (is_from d es) from)))) (rising_on nat_cmp (Some d) e [] es s)

few_above : {V : Type 0} (b x : ℕ) (es : List (ℕ × V)) → x < b → below_all nat_cmp x es ≡ true → is_sorted nat_cmp es ≡ true → list_all (λ e. nat_lt e.0 b) es ≡ true → length es + x < b
few_above b x [] lt h s below = omega (arith, lt)
few_above b x (e ∷ es) lt h s below =
    let up : x < e.0 = ltb-true x e.0 (sym (is_below x e.0) ∙ first_true (is_lt (nat_cmp x e.0)) (below_all nat_cmp x es) h) in
    let rest = few_above b e.0 es (ltb-true e.0 b (first_true (nat_lt e.0 b) (list_all (λ y. nat_lt y.0 b) es) below)) (first_true (below_all nat_cmp e.0 es) (is_sorted nat_cmp es) s) (second_true (below_all nat_cmp e.0 es) (is_sorted nat_cmp es) s) (second_true (nat_lt e.0 b) (list_all (λ y. nat_lt y.0 b) es) below) in
    omega (arith, up, rest)

-- of keys that rise below a number there are at most so many
pub sorted_few : {V : Type 0} (b : ℕ) (es : List (ℕ × V)) → is_sorted nat_cmp es ≡ true → list_all (λ e. nat_lt e.0 b) es ≡ true → length es ≤ b
sorted_few b [] s below = omega arith
sorted_few b (e ∷ es) s below =
    let rest = few_above b e.0 es (ltb-true e.0 b (first_true (nat_lt e.0 b) (list_all (λ y. nat_lt y.0 b) es) below)) (first_true (below_all nat_cmp e.0 es) (is_sorted nat_cmp es) s) (second_true (below_all nat_cmp e.0 es) (is_sorted nat_cmp es) s) (second_true (nat_lt e.0 b) (list_all (λ y. nat_lt y.0 b) es) below) in
    omega (arith, rest)
