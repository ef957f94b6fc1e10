-- The bytes of four rows, one after the other.
use Rattle.std.proofs.Common.{◌≡◌, ℕ, List, [], ◌∷◌, length, get_or, refl, arith}
use Rattle.join_core.specs.declared.max.Max.{Max}
use Rattle.join_nest.specs.Seen.{seen}
use Rattle.mpx_format.specs.Fields.{process, some_calls}
use Rattle.mpx_encode.specs.Entries.{entries_spelled, entry_spelled}

abbrev pub row_spelled : ℕ × Max → List ℕ
row_spelled r = entry_spelled process some_calls (r.0, r.1.0)

-- the five bytes of a row
abbrev pub five : List ℕ → List ℕ → List ℕ
five a rest = get_or a 0 0 ∷ get_or a 1 0 ∷ get_or a 2 0 ∷ get_or a 3 0 ∷ get_or a 4 0 ∷ rest

pub four_rows : (rows : List (ℕ × Max)) (x y z w : ℕ × Max) → length rows ≡ 4
    → five (row_spelled (get_or rows 0 x)) (five (row_spelled (get_or rows 1 y)) (five (row_spelled (get_or rows 2 z)) (five (row_spelled (get_or rows 3 w)) []))) ≡ entries_spelled process some_calls (seen (λ n. n.0) rows)
unfolding process some_calls
four_rows [] x y z w len = absurd (omega (arith, len))
four_rows (a ∷ []) x y z w len = absurd (omega (arith, len))
four_rows (a ∷ b ∷ []) x y z w len = absurd (omega (arith, len))
four_rows (a ∷ b ∷ c ∷ []) x y z w len = absurd (omega (arith, len))
four_rows (a ∷ b ∷ c ∷ d ∷ []) x y z w len = refl
four_rows (a ∷ b ∷ c ∷ d ∷ e ∷ rows) x y z w len = absurd (omega (arith, len))
