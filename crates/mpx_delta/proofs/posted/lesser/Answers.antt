-- What is kept of one number after another.
use Rattle.std.proofs.Common.{◌+◌, ◌≡◌, min, refl, ap, sym, ◌∙◌, subst}
use Rattle.std.specs.Ordering.{nat_cmp}
use Rattle.mpx_board.specs.Views.{view_of_numbers}
use Rattle.mpx_digest.specs.Digest.{number_at}
use Rattle.mpx_digest.proofs.Steps.{KeptSoFar, kept_none, kept_one, kept_whole, kept_rises}
use Rattle.mpx_delta.specs.Posted.{if_above}
use Rattle.mpx_delta.proofs.Telling.{is_above, not_above}
use Rattle.mpx_delta.proofs.posted.lesser.Goals as goal
use Rattle.mpx_delta.proofs.posted.lesser.Goals.{then-call-least+in_ok-push, else-call-least}

pub loop-process-preserved : goal.loop-process-preserved
loop-process-preserved c =
    let least : min c.loop-process-item.result.1.0 (number_at (view_of_numbers c.args.others.now) c.loop-process-item.result.0) ≡ c.min-least.result = sym (c.min-least.ensures ∙ ap (min c.loop-process-item.result.1.0) c.number_near.ensures) in
    elim c.if-call-least.branch [
      | then-call-least+in_ok-push w ↦
          subst (λ m. KeptSoFar (λ p n. if_above c.args.call (min n (number_at (view_of_numbers c.args.others.now) p))) (λ n. n.0) (λ n. n.0) c.entries-process-items.result.now m (c.loop-process.process-index + 1)) (sym (ap (λ v. v.items) w.made-is ∙ w.in_ok-push.ensures.items))
          (kept_one (λ p n. if_above c.args.call (min n (number_at (view_of_numbers c.args.others.now) p))) (λ n. n.0) (λ n. n.0) c.entries-process-items.result.now c.loop-process.made.items c.loop-process.process-index c.loop-process-item.result _ c.loop-process-test.true c.loop-process-item.is refl (ap (if_above c.args.call) least ∙ is_above c.args.call _ w.if-call-least.true) c.loop-process.invariant)
      | else-call-least w ↦
          subst (λ m. KeptSoFar (λ p n. if_above c.args.call (min n (number_at (view_of_numbers c.args.others.now) p))) (λ n. n.0) (λ n. n.0) c.entries-process-items.result.now m (c.loop-process.process-index + 1)) (sym (ap (λ v. v.items) w.made-is))
          (kept_none (λ p n. if_above c.args.call (min n (number_at (view_of_numbers c.args.others.now) p))) (λ n. n.0) (λ n. n.0) c.entries-process-items.result.now c.loop-process.made.items c.loop-process.process-index c.loop-process-item.result c.loop-process-test.true c.loop-process-item.is (ap (if_above c.args.call) least ∙ not_above c.args.call _ w.if-call-least.false) c.loop-process.invariant)
    ]

pub from_rising-requires : goal.from_rising-requires
from_rising-requires c = kept_rises (λ p n. if_above c.args.call (min n (number_at (view_of_numbers c.args.others.now) p))) (λ n. n.0) (λ n. n.0) c.entries-process-items.result.now nat_cmp c.loop-process.made.items c.entries-process-items.ensures.rising (kept_whole (λ p n. if_above c.args.call (min n (number_at (view_of_numbers c.args.others.now) p))) (λ n. n.0) (λ n. n.0) c.entries-process-items.result.now c.loop-process.made.items c.loop-process.process-index c.loop-process-test.false c.loop-process.invariant)
