use Rattle.std.proofs.Common.{◌≡◌, take}
use Rattle.join_nest.specs.Prepared.{entries_there}
use Rattle.join_nest.specs.Seen.{seen}
use Rattle.join_nest.proofs.prepared.joined_there.Given as goal

abbrev pub invariant-loop-other : goal.invariant-loop-other
invariant-loop-other g l = seen g.J.Exact.view l.made.items ≡ entries_there g.K.Ord.cmp g.J.Exact.view g.J.Exact.joining (take l.other-index l.others) l.entries
