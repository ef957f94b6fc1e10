use Rattle.std.proofs.Common.{◌≡◌, ◌≤◌, ◌-◌, drop, length}
use Rattle.join_nest.specs.Entries.{entries_leq}
use Rattle.join_nest.specs.Seen.{seen}
use Rattle.join_nest.proofs.entries.alike_below.Given as goal

abbrev pub invariant-loop-i : goal.invariant-loop-i
invariant-loop-i g l =
    let view = g.J.Exact.view in
    let leq = entries_leq g.K.Ord.cmp g.J.Exact.joining in
    record {
      left : l.i ≤ length l.left;
      right : l.i ≤ length l.right;
      same : leq (seen view (drop l.i l.left)) (seen view (drop l.i l.right)) ≡ leq (seen view l.left) (seen view l.right);
    }

abbrev pub decreases-loop-i : goal.decreases-loop-i
decreases-loop-i g l = length l.right - l.i
