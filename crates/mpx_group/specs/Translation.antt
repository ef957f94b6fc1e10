-- Ranks of one group as ranks of another (MPI 4.1, section 7.3.1).
use Rattle.std.specs.Prelude.{ℕ, List, Option, Some, None, slice_get}
use Rattle.mpx_group.specs.declared.ranks.Rank.{Rank}
use Rattle.mpx_group.specs.declared.ranks.Rank.TheVariants.{At, ProcNull, Undefined}
use Rattle.mpx_group.specs.Group.{rank_in}

abbrev pub rank_or_undefined : Option ℕ → Rank
rank_or_undefined None = Undefined
rank_or_undefined (Some r) = At r

abbrev pub rank_of_member : List ℕ → Option ℕ → Rank
rank_of_member to None = Undefined
rank_of_member to (Some p) = rank_or_undefined (rank_in p to)

-- the rank in the second group of the process at a rank of the first; no correspondence is Undefined
abbrev pub translated : List ℕ → List ℕ → Rank → Rank
translated from to (At r) = rank_of_member to (slice_get from r)
translated from to ProcNull = ProcNull
translated from to Undefined = Undefined
