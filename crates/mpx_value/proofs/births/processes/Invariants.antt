use Rattle.std.proofs.Common.{◌≡◌, take}
use Rattle.mpx_value.specs.Children.{processes}
use Rattle.mpx_value.proofs.births.processes.Given as goal

abbrev pub invariant-loop-rank : goal.invariant-loop-rank
invariant-loop-rank l = l.found.items ≡ processes l.fn.birth.members (take l.rank-index l.ranks)
