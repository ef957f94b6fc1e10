-- A pass over two lists of entries that joins the others in, in place: what stands after some entries of each.
use Rattle.std.specs.Prelude.{◌≡◌, ℕ, false, List, [], ◌∷◌, ◌++◌, length, take, drop, Some}
use Rattle.std.specs.declared.cmp.Ordering.{Ordering}
use Rattle.std.specs.FinMap.{find}
use Rattle.join_core.specs.Joins.{Joining, never_joined}
use Rattle.join_nest.specs.Between.{option_between}
use Rattle.join_nest.specs.Entries.{entries_delta}
use Rattle.join_nest.specs.Seen.{seen}

-- what is made of an entry that stays: the join, where the others have its key
abbrev pub staying : {V : Type 0} → Joining V → Joining V
staying j = record { join = j.join; leq = λ a b. false; delta = j.join }

module _ {K J V : Type 0} (view : J → V) (R : K → K → Ordering) where
  -- the same keys, and at each a value between the old one and the join with the others'
  abbrev pub AllBetween : (V → V → V → Type 0) → List (K × J) → List (K × J) → List (K × J) → Type 0
  AllBetween between ys [] [] = Unit {0}
  AllBetween between ys [] (m ∷ ms) = ⊥
  AllBetween between ys (x ∷ xs) [] = ⊥
  AllBetween between ys (x ∷ xs) (m ∷ ms) = (m.0 ≡ x.0) × (option_between between (Some (view x.1)) (find R x.0 (seen view ys)) (Some (view m.1)) × AllBetween between ys xs ms)

  -- i entries and k of the others are passed; the values of common keys are joined in place, and copies made of the new entries
  pub record Passed (j : Joining V) (between : V → V → V → Type 0) (xs ys now copies : List (K × J)) (i k : ℕ) : Type 0 where
    pub same : length now ≡ length xs
    pub rest : drop i now ≡ drop i xs
    pub joined : (seen view (take i now) ++ entries_delta R (staying j) (seen view (drop i xs)) (seen view (drop k ys))) ≡ entries_delta R (staying j) (seen view xs) (seen view ys)
    pub fresh : (seen view copies ++ entries_delta R never_joined (seen view (drop k ys)) (seen view (drop i xs))) ≡ entries_delta R never_joined (seen view ys) (seen view xs)
    pub left : AllBetween between ys xs now
