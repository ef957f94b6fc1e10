use Rattle.std.proofs.Common.{◌≡◌, ◌<◌, take, false, All}
use Rattle.mpx_group.specs.Group.{has_twice}
use Rattle.mpx_group.proofs.groups.Group.new.Given as goal

abbrev pub invariant-loop-i : goal.invariant-loop-i
invariant-loop-i l =
    (has_twice (take l.i l.member-items) ≡ false) × All (λ p. p < 64) (take l.i l.member-items)
