use Rattle.std.proofs.Common.{◌∙◌, Bool, sym, refl, subst}
use Rattle.mpx_kind.specs.declared.kinds.Seat.{Seat}
use Rattle.mpx_post.specs.Drafts.{Checks, checked, checked_in, drafted_seat}
use Rattle.mpx_post.proofs.Limits.{is_for-fits}
use Rattle.mpx_post.proofs.draft.Draft.check.Goals as goal

pub returns-in-None : goal.returns-in-None
unfolding checked
returns-in-None g c = rw (sym c.rank_of.ensures ∙ c.in-None.is) refl

pub returns-then-at : goal.returns-then-at
unfolding checked
returns-then-at g c = rw (sym c.rank_of.ensures ∙ c.in-Some.is, c.if-at.true) refl

pub returns-then-lacks_topology : goal.returns-then-lacks_topology
unfolding checked
returns-then-lacks_topology g c = rw (sym c.rank_of.ensures ∙ c.in-Some.is, c.if-at.false, sym c.lacks_topology.ensures ∙ c.if-lacks_topology.true, c.stray_refusal.ensures) refl

pub check_in-requires-clause-op : goal.check_in-requires-clause-op
check_in-requires-clause-op g c = λ t. is_for-fits _ c.args.self.op c.args.self.ty (sym c.op_fits-for_type.ensures ∙ t)

pub returns-else-lacks_topology : goal.returns-else-lacks_topology
unfolding checked
returns-else-lacks_topology g c =
    let in_seat = subst (λ (seat : Seat). Checks (checked_in c.op_fits-for_type.result seat c.args.at.now c.args.self) c.check_in.result) c.seat-seat.ensures.value c.check_in.ensures in
    let by_ops = subst (λ (b : Bool). Checks (checked_in b (drafted_seat c.args.birth.now c.in-Some.rank c.args.self) c.args.at.now c.args.self) c.check_in.result) c.op_fits-for_type.ensures in_seat in
    rw (sym c.rank_of.ensures ∙ c.in-Some.is, c.if-at.false, sym c.lacks_topology.ensures ∙ c.if-lacks_topology.false) by_ops
