use Rattle.std.proofs.Common.{◌≡◌, take, sum}
use Rattle.mpx_neigh.proofs.cursors.counted_block.Given as goal

abbrev pub invariant-loop-earlier : goal.invariant-loop-earlier
invariant-loop-earlier l = l.first ≡ sum (take l.earlier l.counts)
