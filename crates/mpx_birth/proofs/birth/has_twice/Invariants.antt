use Rattle.std.proofs.Common.{◌≡◌, false, take}
use Rattle.mpx_group.specs.Group.{has_twice}
use Rattle.mpx_birth.proofs.birth.has_twice.Given as goal

abbrev pub invariant-loop-i : goal.invariant-loop-i
invariant-loop-i l = has_twice (take l.i l.members) ≡ false
