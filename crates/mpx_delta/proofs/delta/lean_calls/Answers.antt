-- What is kept of one call after another.
use Rattle.std.proofs.Common.{◌+◌, not, refl, ap, sym, ◌∙◌, subst, T}
use Rattle.std.specs.Ordering.{nat_cmp}
use Rattle.std.specs.FinMap.{from_sorted, entries}
use Rattle.join_nest.specs.Seen.{seen}
use Rattle.join_nest.specs.Cut.{is_from}
use Rattle.join_nest.specs.TruncSeen.{is_from_seen}
use Rattle.mpx_board.specs.Views.{view_of_call, view_of_calls, view_of_numbers}
use Rattle.mpx_digest.specs.Digest.{number_at}
use Rattle.mpx_digest.specs.Keep.{kept}
use Rattle.mpx_digest.proofs.Steps.{true_of, KeptSoFar, kept_none, kept_one, kept_whole, kept_rises}
use Rattle.mpx_digest.proofs.Bare.{bare_some, bare_none}
use Rattle.mpx_delta.specs.Lean.{lean_call}
use Rattle.mpx_delta.proofs.Leaning.{trunc_is, from_kept}
use Rattle.mpx_delta.proofs.delta.lean_calls.Goals as goal
use Rattle.mpx_delta.proofs.delta.lean_calls.Goals.{then-not-is_empty+in_ok-push, else-not-is_empty}

pub loop-call-preserved : goal.loop-call-preserved
loop-call-preserved c =
    elim c.if-not-is_empty.branch [
      | then-not-is_empty+in_ok-push w ↦
          subst (λ m. KeptSoFar (lean_call (number_at (view_of_numbers c.args.numbers.now))) view_of_call view_of_call c.entries-call-items.result.now m (c.loop-call.call-index + 1)) (sym (ap (λ v. v.items) w.made-is ∙ w.in_ok-push.ensures.items))
          (kept_one (lean_call (number_at (view_of_numbers c.args.numbers.now))) view_of_call view_of_call c.entries-call-items.result.now c.loop-call.made.items c.loop-call.call-index c.loop-call-item.result _ c.loop-call-test.true c.loop-call-item.is refl (bare_some _ _ c.in_ok-lean.ensures _ c.is_empty.ensures (ap not w.if-not-is_empty.true)) c.loop-call.invariant)
      | else-not-is_empty w ↦
          subst (λ m. KeptSoFar (lean_call (number_at (view_of_numbers c.args.numbers.now))) view_of_call view_of_call c.entries-call-items.result.now m (c.loop-call.call-index + 1)) (sym (ap (λ v. v.items) w.made-is))
          (kept_none (lean_call (number_at (view_of_numbers c.args.numbers.now))) view_of_call view_of_call c.entries-call-items.result.now c.loop-call.made.items c.loop-call.call-index c.loop-call-item.result c.loop-call-test.true c.loop-call-item.is (bare_none _ _ c.in_ok-lean.ensures _ c.is_empty.ensures (ap not w.if-not-is_empty.false)) c.loop-call.invariant)
    ]

pub from_rising-requires-clause-rising : goal.from_rising-requires-clause-rising
from_rising-requires-clause-rising c = kept_rises (lean_call (number_at (view_of_numbers c.args.numbers.now))) view_of_call view_of_call c.entries-call-items.result.now nat_cmp c.loop-call.made.items c.entries-call-items.ensures.rising (kept_whole (lean_call (number_at (view_of_numbers c.args.numbers.now))) view_of_call view_of_call c.entries-call-items.result.now c.loop-call.made.items c.loop-call.call-index c.loop-call-test.false c.loop-call.invariant)

pub from_rising-requires-clause-above : goal.from_rising-requires-clause-above
from_rising-requires-clause-above c =
    let whole = kept_whole (lean_call (number_at (view_of_numbers c.args.numbers.now))) view_of_call view_of_call c.entries-call-items.result.now c.loop-call.made.items c.loop-call.call-index c.loop-call-test.false c.loop-call.invariant in
    let calls : T (is_from c.dropped.result (entries (view_of_calls c.args.calls.now).calls)) = subst (λ d. T (is_from d (entries (view_of_calls c.args.calls.now).calls))) (sym c.dropped.ensures) (view_of_calls c.args.calls.now).above in
    true_of _ (subst T (is_from_seen view_of_call c.dropped.result c.loop-call.made.items) (subst (λ l. T (is_from c.dropped.result l)) (sym whole)
    (from_kept (lean_call (number_at (view_of_numbers c.args.numbers.now))) c.dropped.result (seen view_of_call c.entries-call-items.result.now) (subst (λ l. T (is_from c.dropped.result l)) (sym c.entries-call-items.ensures.entries) calls))))

pub returns : goal.returns
returns c = trunc_is _ _ _ (c.from_rising.ensures.dropped ∙ c.dropped.ensures) (c.from_rising.ensures.calls ∙ ap from_sorted (kept_whole (lean_call (number_at (view_of_numbers c.args.numbers.now))) view_of_call view_of_call c.entries-call-items.result.now c.loop-call.made.items c.loop-call.call-index c.loop-call-test.false c.loop-call.invariant ∙ ap (kept (lean_call (number_at (view_of_numbers c.args.numbers.now)))) c.entries-call-items.ensures.entries))
