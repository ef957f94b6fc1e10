-- Ranks that were picked one after another.
use Rattle.std.specs.Prelude.{ℕ, Bool, true, if◌then◌else◌, List, [], ◌∷◌, ◌++◌, fold}
use Rattle.mpx_group.specs.Group.{has}

-- the ranks picked so far, each once, and whether one was asked for twice
abbrev pub Picked : Type 0
Picked = List ℕ × Bool

abbrev pub with_rank : Picked → ℕ → Picked
with_rank p r = if has p.0 r then (p.0, true) else (p.0 ++ r ∷ [], p.1)

abbrev pub with_ranks : Picked → List ℕ → Picked
with_ranks p ranks = fold with_rank p ranks
