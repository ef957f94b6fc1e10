use Rattle.std.proofs.Common.{take}
use Rattle.join_nest.specs.Seen.{seen}
use Rattle.mpx_board.specs.Views.{view_of_call}
use Rattle.mpx_digest.specs.Reach.{AreMarks, has_posted}
use Rattle.mpx_digest.proofs.digest.posters_of.Given as goal

abbrev pub invariant-loop-call : goal.invariant-loop-call
invariant-loop-call l = AreMarks (λ p. has_posted p (seen view_of_call (take l.call-index l.call-items))) l.marks
