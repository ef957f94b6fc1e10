use Rattle.std.proofs.Common.{◌≡◌, length, take}
use Rattle.mpx_group.specs.Group.{has}
use Rattle.mpx_digest.specs.Reach.{AreMarks}
use Rattle.mpx_digest.proofs.digest.marks_of.Given as goal

abbrev pub invariant-loop-member : goal.invariant-loop-member
invariant-loop-member l = record {
  size : length l.marks ≡ 64;
  marked : AreMarks (has (take l.member-index l.members)) l.marks;
}
