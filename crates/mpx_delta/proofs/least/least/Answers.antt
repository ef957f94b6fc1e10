-- What is kept of one context after another.
use Rattle.std.proofs.Common.{◌+◌, not, ap, sym, ◌∙◌, subst}
use Rattle.mpx_name.specs.Order.{name_cmp}
use Rattle.mpx_board.specs.Views.{view_of_acks, view_of_numbers}
use Rattle.mpx_digest.proofs.Steps.{KeptSoFar, kept_none, kept_one, kept_whole, kept_rises}
use Rattle.mpx_digest.proofs.Bare.{bare_some, bare_none}
use Rattle.mpx_delta.specs.Least.{least_context}
use Rattle.mpx_delta.proofs.least.least.Goals as goal
use Rattle.mpx_delta.proofs.least.least.Goals.{then-not-is_empty+in_ok-copy+in_ok-push, else-not-is_empty}

pub loop-name-preserved : goal.loop-name-preserved
loop-name-preserved c =
    elim c.if-not-is_empty.branch [
      | then-not-is_empty+in_ok-copy+in_ok-push w ↦
          subst (λ m. KeptSoFar (least_context (view_of_acks c.args.others.now)) view_of_numbers view_of_numbers c.entries-name-items.result.now m (c.loop-name.name-index + 1)) (sym (ap (λ v. v.items) w.made-is ∙ w.in_ok-push.ensures.items))
          (kept_one (least_context (view_of_acks c.args.others.now)) view_of_numbers view_of_numbers c.entries-name-items.result.now c.loop-name.made.items c.loop-name.name-index c.loop-name-item.result _ c.loop-name-test.true c.loop-name-item.is w.in_ok-copy.ensures (bare_some _ _ c.in_ok-least.ensures _ c.is_empty.ensures (ap not w.if-not-is_empty.true)) c.loop-name.invariant)
      | else-not-is_empty w ↦
          subst (λ m. KeptSoFar (least_context (view_of_acks c.args.others.now)) view_of_numbers view_of_numbers c.entries-name-items.result.now m (c.loop-name.name-index + 1)) (sym (ap (λ v. v.items) w.made-is))
          (kept_none (least_context (view_of_acks c.args.others.now)) view_of_numbers view_of_numbers c.entries-name-items.result.now c.loop-name.made.items c.loop-name.name-index c.loop-name-item.result c.loop-name-test.true c.loop-name-item.is (bare_none _ _ c.in_ok-least.ensures _ c.is_empty.ensures (ap not w.if-not-is_empty.false)) c.loop-name.invariant)
    ]

pub from_rising-requires : goal.from_rising-requires
from_rising-requires c = kept_rises (least_context (view_of_acks c.args.others.now)) view_of_numbers view_of_numbers c.entries-name-items.result.now name_cmp c.loop-name.made.items c.entries-name-items.ensures.rising (kept_whole (least_context (view_of_acks c.args.others.now)) view_of_numbers view_of_numbers c.entries-name-items.result.now c.loop-name.made.items c.loop-name.name-index c.loop-name-test.false c.loop-name.invariant)
