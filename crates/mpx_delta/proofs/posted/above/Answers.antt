-- What is kept of one number after another.
use Rattle.std.proofs.Common.{◌+◌, refl, ap, sym, ◌∙◌, subst}
use Rattle.std.specs.Ordering.{nat_cmp}
use Rattle.mpx_digest.proofs.Steps.{KeptSoFar, kept_none, kept_one, kept_whole, kept_rises}
use Rattle.mpx_delta.specs.Posted.{if_above}
use Rattle.mpx_delta.proofs.Telling.{is_above, not_above}
use Rattle.mpx_delta.proofs.posted.above.Goals as goal
use Rattle.mpx_delta.proofs.posted.above.Goals.{then-call-number+in_ok-push, else-call-number}

pub loop-process-preserved : goal.loop-process-preserved
loop-process-preserved c =
    elim c.if-call-number.branch [
      | then-call-number+in_ok-push w ↦
          subst (λ m. KeptSoFar (λ p n. if_above c.args.call n) (λ n. n.0) (λ n. n.0) c.entries-process-items.result.now m (c.loop-process.process-index + 1)) (sym (ap (λ v. v.items) w.made-is ∙ w.in_ok-push.ensures.items))
          (kept_one (λ p n. if_above c.args.call n) (λ n. n.0) (λ n. n.0) c.entries-process-items.result.now c.loop-process.made.items c.loop-process.process-index c.loop-process-item.result _ c.loop-process-test.true c.loop-process-item.is refl (is_above c.args.call _ w.if-call-number.true) c.loop-process.invariant)
      | else-call-number w ↦
          subst (λ m. KeptSoFar (λ p n. if_above c.args.call n) (λ n. n.0) (λ n. n.0) c.entries-process-items.result.now m (c.loop-process.process-index + 1)) (sym (ap (λ v. v.items) w.made-is))
          (kept_none (λ p n. if_above c.args.call n) (λ n. n.0) (λ n. n.0) c.entries-process-items.result.now c.loop-process.made.items c.loop-process.process-index c.loop-process-item.result c.loop-process-test.true c.loop-process-item.is (not_above c.args.call _ w.if-call-number.false) c.loop-process.invariant)
    ]

pub from_rising-requires : goal.from_rising-requires
from_rising-requires c = kept_rises (λ p n. if_above c.args.call n) (λ n. n.0) (λ n. n.0) c.entries-process-items.result.now nat_cmp c.loop-process.made.items c.entries-process-items.ensures.rising (kept_whole (λ p n. if_above c.args.call n) (λ n. n.0) (λ n. n.0) c.entries-process-items.result.now c.loop-process.made.items c.loop-process.process-index c.loop-process-test.false c.loop-process.invariant)
