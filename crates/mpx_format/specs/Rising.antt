-- Entries in the rising order of their keys.
use Rattle.std.specs.Prelude.{ℕ, ◌-◌, ◌&&◌, Bool, true, not, List, [], ◌∷◌, ◌++◌, length, Option, Some, None, slice_get}
use Rattle.std.specs.declared.cmp.Ordering.{Ordering}
use Rattle.std.specs.Ordering.{is_lt}
use Rattle.std.specs.FinMap.{FinMap, entries, from_sorted}
use Rattle.mpx_format.specs.Format.{Format, both, only, counted, through, not_canonical}

abbrev pub last_of : {A : Type 0} → List A → Option A
last_of xs = slice_get xs (length xs - 1)

-- whether a key may stand next: it is above the last one; the first isn't below the least one, where there is such
abbrev pub may_come : {K V : Type 0} → (K → K → Ordering) → Option K → Option (K × V) → K → Bool
may_come R least (Some last) k = is_lt (R last.0 k)
may_come R (Some least) None k = not (is_lt (R k least))
may_come R None None k = true

-- whether each of these entries may come, after those before it
abbrev pub many_rising : {K V : Type 0} → (K → K → Ordering) → Option K → List (K × V) → List (K × V) → Bool
many_rising R least before [] = true
many_rising R least before (e ∷ es) = may_come R least (last_of before) e.0 && many_rising R least (before ++ e ∷ []) es

-- a key above those before it, with a value that says something; else the key is wrong
abbrev pub entry : {K V : Type 0} → (K → K → Ordering) → Option K → Format K → Format V → (V → Bool) → List (K × V) → Format (K × V)
entry R least key value says before = only not_canonical (λ e. says e.1) (both (only not_canonical (may_come R least (last_of before)) key) (λ k. value))

-- whether the first of them may come first
abbrev pub first_may : {K V : Type 0} → (K → K → Ordering) → Option K → List (K × V) → Bool
first_may R least [] = true
first_may {V = V} R least (e ∷ es) = may_come {V = V} R least None e.0

-- a map by its entries, in the rising order of their keys
abbrev pub keyed : {K V : Type 0} (R : K → K → Ordering) → Format ℕ → Format K → Format V → (V → Bool) → Format (FinMap R V)
keyed R count key value says = through (from_sorted {R = R}) (λ m. Some (entries m)) (counted count (entry R None key value says))

-- values each of which says something
abbrev pub always : {V : Type 0} → V → Bool
always v = true
