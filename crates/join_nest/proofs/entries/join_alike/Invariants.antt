use Rattle.std.proofs.Common.{◌≤◌, ◌-◌, [], length}
use Rattle.join_nest.specs.Passed.{Passed}
use Rattle.join_nest.proofs.entries.join_alike.Given as goal

abbrev pub invariant-loop-i : goal.invariant-loop-i
invariant-loop-i g l = record {
  left : l.i ≤ length l.entries.items;
  right : l.i ≤ length l.others;
  passed : Passed g.J.Exact.view g.K.Ord.cmp g.J.Exact.joining g.J.Exact.between l.fn.entries.items l.others l.entries.items [] l.i l.i;
}

abbrev pub decreases-loop-i : goal.decreases-loop-i
decreases-loop-i g l = length l.others - l.i
