use Rattle.std.proofs.Common.{◌≤◌, ◌-◌, length}
use Rattle.mpx_rope.proofs.source.piece_at.Given as goal

abbrev pub invariant-loop-low : goal.invariant-loop-low
invariant-loop-low l = l.high ≤ length l.pieces

abbrev pub decreases-loop-low : goal.decreases-loop-low
decreases-loop-low l = l.high - l.low
