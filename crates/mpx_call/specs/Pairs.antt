-- The numbers of pairs (MPI 4.1, section 6.9.4).
use Rattle.std.specs.Prelude.{List, [], ◌∷◌}

-- of each pair its value and then its index
abbrev pub both_numbers : {X : Type 0} → List (X × X) → List X
both_numbers [] = []
both_numbers (pair ∷ pairs) = pair.0 ∷ pair.1 ∷ both_numbers pairs
