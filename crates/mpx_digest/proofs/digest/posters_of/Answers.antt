-- The posts of one call more.
use Rattle.std.proofs.Common.{sym, ◌∙◌, take}
use Rattle.join_nest.specs.Seen.{seen}
use Rattle.mpx_board.specs.Views.{view_of_call}
use Rattle.mpx_digest.specs.Reach.{has_posted}
use Rattle.mpx_digest.proofs.Reaching.{no_marks, posted_more}
use Rattle.mpx_digest.proofs.digest.posters_of.Goals as goal

pub loop-call-init : goal.loop-call-init
loop-call-init c = no_marks

pub loop-call-preserved : goal.loop-call-preserved
loop-call-preserved c p lt =
    c.mark_posters.ensures (λ q. has_posted q (seen view_of_call (take c.loop-call.call-index c.entries-call-items.result.now))) c.loop-call.invariant p lt
    ∙ sym (posted_more view_of_call c.entries-call-items.result.now c.loop-call.call-index c.call-item.result p c.loop-call-test.true c.call-item.is)
