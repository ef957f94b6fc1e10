-- What is kept of one number after another.
use Rattle.std.proofs.Common.{◌+◌, min, Some, refl, ap, sym, ◌∙◌, subst}
use Rattle.std.specs.Option.{option_copied, option_map}
use Rattle.std.specs.Ordering.{nat_cmp}
use Rattle.mpx_board.specs.Views.{view_of_numbers}
use Rattle.mpx_digest.proofs.Steps.{KeptSoFar, kept_none, kept_one, kept_whole, kept_rises}
use Rattle.mpx_delta.specs.Least.{least_number}
use Rattle.mpx_delta.proofs.least.least_numbers.Goals as goal
use Rattle.mpx_delta.proofs.least.least_numbers.Goals.{in-Some+in_ok-push, in_default}

pub loop-process-preserved : goal.loop-process-preserved
loop-process-preserved c =
    elim c.match-value_near.branch [
      | in-Some+in_ok-push w ↦
          subst (λ m. KeptSoFar (least_number (view_of_numbers c.args.others.now)) (λ n. n.0) (λ n. n.0) c.entries-process-items.result.now m (c.loop-process.process-index + 1)) (sym (ap (λ v. v.items) w.made-is ∙ w.in_ok-push.ensures.items))
          (kept_one (least_number (view_of_numbers c.args.others.now)) (λ n. n.0) (λ n. n.0) c.entries-process-items.result.now c.loop-process.made.items c.loop-process.process-index c.loop-process-item.result _ c.loop-process-test.true c.loop-process-item.is refl
          (ap (option_map (min c.loop-process-item.result.1.0)) (sym c.value_near.ensures ∙ ap (λ o. option_map (λ n. n.0) (option_copied o)) w.in-Some.is) ∙ ap Some (sym w.min.ensures)) c.loop-process.invariant)
      | in_default w ↦
          subst (λ m. KeptSoFar (least_number (view_of_numbers c.args.others.now)) (λ n. n.0) (λ n. n.0) c.entries-process-items.result.now m (c.loop-process.process-index + 1)) (sym (ap (λ v. v.items) w.made-is))
          (kept_none (least_number (view_of_numbers c.args.others.now)) (λ n. n.0) (λ n. n.0) c.entries-process-items.result.now c.loop-process.made.items c.loop-process.process-index c.loop-process-item.result c.loop-process-test.true c.loop-process-item.is (ap (option_map (min c.loop-process-item.result.1.0)) (sym c.value_near.ensures ∙ ap (λ o. option_map (λ n. n.0) (option_copied o)) w.in_default.is)) c.loop-process.invariant)
    ]

pub from_rising-requires : goal.from_rising-requires
from_rising-requires c = kept_rises (least_number (view_of_numbers c.args.others.now)) (λ n. n.0) (λ n. n.0) c.entries-process-items.result.now nat_cmp c.loop-process.made.items c.entries-process-items.ensures.rising (kept_whole (least_number (view_of_numbers c.args.others.now)) (λ n. n.0) (λ n. n.0) c.entries-process-items.result.now c.loop-process.made.items c.loop-process.process-index c.loop-process-test.false c.loop-process.invariant)
