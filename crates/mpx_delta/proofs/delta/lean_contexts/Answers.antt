-- What is kept of one entry after another.
use Rattle.std.proofs.Common.{◌+◌, ap, sym, ◌∙◌, subst}
use Rattle.mpx_name.specs.Order.{name_cmp}
use Rattle.mpx_board.specs.Views.{view_of_acks, view_of_lifted}
use Rattle.mpx_digest.proofs.Steps.{KeptSoFar, kept_none, kept_one, kept_whole, kept_rises}
use Rattle.mpx_delta.specs.Lean.{lean_context}
use Rattle.mpx_delta.proofs.Leaning.{says_some, says_none}
use Rattle.mpx_delta.proofs.delta.lean_contexts.Goals as goal
use Rattle.mpx_delta.proofs.delta.lean_contexts.Goals.{then-is_said+in_ok-copy+in_ok-push, else-is_said+in-Live-1, else-is_said+in-Dead-1}

pub loop-name-preserved : goal.loop-name-preserved
loop-name-preserved c =
    elim c.if-is_said.branch [
      | then-is_said+in_ok-copy+in_ok-push w ↦
          subst (λ m. KeptSoFar (lean_context (view_of_acks c.args.digest.now)) view_of_lifted view_of_lifted c.entries-name-items.result.now m (c.loop-name.name-index + 1)) (sym (ap (λ v. v.items) w.made-is ∙ w.in_ok-push.ensures.items))
          (kept_one (lean_context (view_of_acks c.args.digest.now)) view_of_lifted view_of_lifted c.entries-name-items.result.now c.loop-name.made.items c.loop-name.name-index c.loop-name-item.result _ c.loop-name-test.true c.loop-name-item.is w.in_ok-copy.ensures (says_some _ _ c.in_ok-lean.ensures (sym w.if-is_said.true ∙ c.is_said.ensures)) c.loop-name.invariant)
      | else-is_said+in-Live-1 w ↦
          subst (λ m. KeptSoFar (lean_context (view_of_acks c.args.digest.now)) view_of_lifted view_of_lifted c.entries-name-items.result.now m (c.loop-name.name-index + 1)) (sym (ap (λ v. v.items) w.made-is))
          (kept_none (lean_context (view_of_acks c.args.digest.now)) view_of_lifted view_of_lifted c.entries-name-items.result.now c.loop-name.made.items c.loop-name.name-index c.loop-name-item.result c.loop-name-test.true c.loop-name-item.is (says_none _ _ c.in_ok-lean.ensures (sym w.if-is_said.false ∙ c.is_said.ensures)) c.loop-name.invariant)
      | else-is_said+in-Dead-1 w ↦
          subst (λ m. KeptSoFar (lean_context (view_of_acks c.args.digest.now)) view_of_lifted view_of_lifted c.entries-name-items.result.now m (c.loop-name.name-index + 1)) (sym (ap (λ v. v.items) w.made-is))
          (kept_none (lean_context (view_of_acks c.args.digest.now)) view_of_lifted view_of_lifted c.entries-name-items.result.now c.loop-name.made.items c.loop-name.name-index c.loop-name-item.result c.loop-name-test.true c.loop-name-item.is (says_none _ _ c.in_ok-lean.ensures (sym w.if-is_said.false ∙ c.is_said.ensures)) c.loop-name.invariant)
    ]

pub from_rising-requires : goal.from_rising-requires
from_rising-requires c = kept_rises (lean_context (view_of_acks c.args.digest.now)) view_of_lifted view_of_lifted c.entries-name-items.result.now name_cmp c.loop-name.made.items c.entries-name-items.ensures.rising (kept_whole (lean_context (view_of_acks c.args.digest.now)) view_of_lifted view_of_lifted c.entries-name-items.result.now c.loop-name.made.items c.loop-name.name-index c.loop-name-test.false c.loop-name.invariant)
