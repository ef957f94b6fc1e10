use Rattle.std.proofs.Common.{◌≡◌, ◌<◌, ℕ, get_or, length, take}
use Rattle.mpx_birth.specs.Edges.{often}
use Rattle.mpx_birth.proofs.pairs.tallied.Given as goal

abbrev pub invariant-loop-neighbour : goal.invariant-loop-neighbour
invariant-loop-neighbour l = record {
  long : length l.counts ≡ 64;
  counted : (rank : ℕ) → rank < 64 → get_or l.counts rank 0 ≡ often rank (take l.neighbour-index l.neighbours);
}
