-- What a table has for a word, and a number as one below a limit.
use Rattle.std.specs.Prelude.{ℕ, nat_lt, List, [], ◌∷◌, bytes_eq, Option, Some, None, ℤ, pos, negsuc, if◌then◌else◌}

-- what a table has for a word
abbrev pub named : {A : Type 0} → List (List ℕ × A) → List ℕ → Option A
named [] word = None
named (entry ∷ more) word = if bytes_eq word entry.0 then Some entry.1 else named more word

-- the number as a natural one below the limit
abbrev pub below : ℕ → ℤ → Option ℕ
below limit (pos n) = if nat_lt n limit then Some n else None
below limit (negsuc n) = None
