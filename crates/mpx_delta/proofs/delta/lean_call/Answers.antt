-- What is kept of one post after another.
use Rattle.std.proofs.Common.{◌+◌, ◌<◌, ◌≤◌, refl, ap, sym, ◌∙◌, subst}
use Rattle.std.specs.Ordering.{nat_cmp}
use Rattle.join_core.specs.FlatSeen.{flat_view}
use Rattle.mpx_board.specs.Views.{view_of_numbers}
use Rattle.mpx_digest.specs.Digest.{number_at}
use Rattle.mpx_digest.proofs.Steps.{KeptSoFar, kept_none, kept_one, kept_whole, kept_rises}
use Rattle.mpx_delta.specs.Lean.{lean_post}
use Rattle.mpx_delta.proofs.Leaning.{post_kept, post_cut}
use Rattle.mpx_delta.proofs.delta.lean_call.Goals as goal
use Rattle.mpx_delta.proofs.delta.lean_call.Goals.{then-call-number_at+in_ok-copy+in_ok-push, else-call-number_at}

pub loop-process-preserved : goal.loop-process-preserved
loop-process-preserved c =
    elim c.if-call-number_at.branch [
      | then-call-number_at+in_ok-copy+in_ok-push w ↦
          subst (λ m. KeptSoFar (lean_post (number_at (view_of_numbers c.args.numbers.now)) c.args.call) (flat_view (λ v. v)) (flat_view (λ v. v)) c.entries-process-items.result.now m (c.loop-process.process-index + 1)) (sym (ap (λ v. v.items) w.made-is ∙ w.in_ok-push.ensures.items))
          (kept_one (lean_post (number_at (view_of_numbers c.args.numbers.now)) c.args.call) (flat_view (λ v. v)) (flat_view (λ v. v)) c.entries-process-items.result.now c.loop-process.made.items c.loop-process.process-index c.loop-process-item.result _ c.loop-process-test.true c.loop-process-item.is refl (post_kept _ _ _ _ (subst (λ n. n ≤ c.args.call) c.number_at.ensures w.if-call-number_at.true) w.in_ok-copy.ensures) c.loop-process.invariant)
      | else-call-number_at w ↦
          subst (λ m. KeptSoFar (lean_post (number_at (view_of_numbers c.args.numbers.now)) c.args.call) (flat_view (λ v. v)) (flat_view (λ v. v)) c.entries-process-items.result.now m (c.loop-process.process-index + 1)) (sym (ap (λ v. v.items) w.made-is))
          (kept_none (lean_post (number_at (view_of_numbers c.args.numbers.now)) c.args.call) (flat_view (λ v. v)) (flat_view (λ v. v)) c.entries-process-items.result.now c.loop-process.made.items c.loop-process.process-index c.loop-process-item.result c.loop-process-test.true c.loop-process-item.is (post_cut _ _ _ (subst (λ n. c.args.call < n) c.number_at.ensures w.if-call-number_at.false)) c.loop-process.invariant)
    ]

pub from_rising-requires : goal.from_rising-requires
from_rising-requires c = kept_rises (lean_post (number_at (view_of_numbers c.args.numbers.now)) c.args.call) (flat_view (λ v. v)) (flat_view (λ v. v)) c.entries-process-items.result.now nat_cmp c.loop-process.made.items c.entries-process-items.ensures.rising (kept_whole (lean_post (number_at (view_of_numbers c.args.numbers.now)) c.args.call) (flat_view (λ v. v)) (flat_view (λ v. v)) c.entries-process-items.result.now c.loop-process.made.items c.loop-process.process-index c.loop-process-test.false c.loop-process.invariant)
