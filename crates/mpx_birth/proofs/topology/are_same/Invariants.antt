use Rattle.std.proofs.Common.{◌≡◌, drop}
use lib.Pointwise.{pointwise}
use Rattle.mpx_birth.specs.Topologies.{same_near}
use Rattle.mpx_birth.proofs.topology.are_same.Given as goal

abbrev pub invariant-loop-i : goal.invariant-loop-i
invariant-loop-i l = pointwise same_near (drop l.i l.left) (drop l.i l.right) ≡ pointwise same_near l.left l.right
