-- Values of a map by the places of its entries, in the rising order of their keys.
use Rattle.std.specs.Prelude.{ℕ, zero, suc, Bool, true, cond, ◌&&◌, nat_le, List, [], ◌∷◌, Option, Some, None}
use Rattle.std.specs.declared.cmp.Ordering.{Ordering}
use Rattle.std.specs.FinMap.{FinMap, entries, from_sorted, get, insert}
use Rattle.join_core.specs.Joins.{Joining}

module _ {K V : Type 0} where
  -- another value at the place; where there is no such place nothing changes
  abbrev pub set_value : List (K × V) → ℕ → V → List (K × V)
  set_value [] at v = []
  set_value (e ∷ es) zero v = (e.0, v) ∷ es
  set_value (e ∷ es) (suc at) v = e ∷ set_value es at v

  -- the value there, and without such a place this one
  abbrev pub taken_at : List (K × V) → ℕ → V → V
  taken_at [] at v = v
  taken_at (e ∷ es) zero v = e.1
  taken_at (e ∷ es) (suc at) v = taken_at es at v

  -- all of these, one after the other
  abbrev pub set_values : List (K × V) → List (ℕ × V) → List (K × V)
  set_values es [] = es
  set_values es (c ∷ cs) = set_values (set_value es c.0 c.1) cs

  -- what each of them takes the place of
  abbrev pub taken : List (K × V) → List (ℕ × V) → List (ℕ × V)
  taken es [] = []
  taken es (c ∷ cs) = (c.0, taken_at es c.0 c.1) ∷ taken (set_value es c.0 c.1) cs

-- the places rise, from this one on
abbrev pub rise_from : {V : Type 0} → ℕ → List (ℕ × V) → Bool
rise_from least [] = true
rise_from least (c ∷ cs) = nat_le least c.0 && rise_from (suc c.0) cs

-- both joined, with their place, where the other isn't below the value there
abbrev pub raised_at : {V : Type 0} → Joining V → ℕ → V → V → List (ℕ × V)
raised_at j at v other = cond (j.leq other v) [] ((at, j.join v other) ∷ [])

-- the map with these values at their places
abbrev pub with_values : {K V : Type 0} {R : K → K → Ordering} → FinMap R V → List (ℕ × V) → FinMap R V
with_values m cs = from_sorted (set_values (entries m) cs)

module _ {K L V : Type 0} {R : K → K → Ordering} {S : L → L → Ordering} where
  -- the maps, where this is the one at the key, with these values in it
  abbrev pub values_in : FinMap R (FinMap S V) → K → List (ℕ × V) → Option (FinMap S V) → FinMap R (FinMap S V)
  values_in maps key cs None = maps
  values_in maps key cs (Some m) = insert maps key (with_values m cs)

  -- the maps with these values in the one at the key, if there is one
  abbrev pub with_values_under : FinMap R (FinMap S V) → K → List (ℕ × V) → FinMap R (FinMap S V)
  with_values_under maps key cs = values_in maps key cs (get maps key)
