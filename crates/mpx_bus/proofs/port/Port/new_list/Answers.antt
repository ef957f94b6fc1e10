use Rattle.std.proofs.Common.{[], ◌∷◌, ◌++◌, refl, sym, ap, ◌∙◌, subst}
use Rattle.crossbeam_queue.specs.Passes.{view}
use Rattle.mpx_node.specs.Nodes.{NodeView}
use Rattle.mpx_node.specs.Deltas.{SaysWhatItHas}
use Rattle.mpx_node.specs.Shown.{node_of}
use Rattle.mpx_node.proofs.Storing.{stores_lent, stored_there}
use Rattle.mpx_bus.specs.declared.act.Act.TheVariants as A
use Rattle.mpx_bus.specs.Frames.{AreSpelled}
use Rattle.mpx_bus.specs.Views.{seat_of}
use Rattle.mpx_bus.specs.Ports.{PortView, port_view, node_in, PortGoesOn, AreDeltas, IsPort}
use Rattle.mpx_bus.proofs.Ports.{port_said, new_kept, new_deltas, deltas_some}
use Rattle.mpx_bus.proofs.Goes.{goes_on}
use Rattle.mpx_bus.proofs.port.Port.new_list.Goals as goal

pub acknowledge-requires : goal.acknowledge-requires
acknowledge-requires c = let lacks = c.in_ok-said.ensures.made.lacks in record { made = (lacks.after, stores_lent c.in_ok-said.field-0.said (node_of c.self.inside.node) _ lacks.after c.in_ok-said.ensures.node lacks.stores) }

pub invariant_of-self : goal.invariant_of-self
invariant_of-self c =
    let i = c.self.invariant in
    (i.0, i.1, subst (λ n. IsPort n (view c.self.inside.pass) (view c.self.inside.line)) (sym c.lacking_frames.ensures.node) i.2, i.3)

pub invariant_of-self-2 : goal.invariant_of-self-2
invariant_of-self-2 c =
    let i = c.self.invariant in
    let v = view c.self.inside.pass in
    let kept = c.in_ok-said.ensures.made in
    let made = kept.lacks in
    let after = stored_there c.in_ok-said.field-0.said (node_of c.self.inside.node) _ made.after _ c.in_ok-said.ensures.node made.stores c.acknowledge.ensures.gives in
    let said = port_said (node_of c.self.inside.node) (node_of c.acknowledge.new.self) v (view c.self.inside.line) (view c.acknowledged.new.line) c.board.result.now i.2 (subst (SaysWhatItHas (node_of c.self.inside.node)) after made.own) c.board.ensures c.acknowledged.ensures.noted in
    let spelled = subst (λ frames. AreSpelled frames kept.parts) (sym c.in_ok-frames.ensures) kept.spelled in (
      i.0,
      (c.acknowledged.ensures.same.0 ∙ i.1.0, c.acknowledged.ensures.same.2 ∙ i.1.1),
      said,
      new_kept v.setup (seat_of v).me (view c.acknowledged.new.line) _ _ _ c.in_ok-frames.frames.items kept.parts made (after ∙ said.node_is) spelled,
    )

pub returns-clause-port : goal.returns-clause-port
returns-clause-port c =
    let v = view c.self.inside.pass in
    let a : PortView = port_view v (view c.self.inside.line) c.self.inside.kept.items c.self.inside.pass.table_id c.self.inside.pass.id in
    let b : PortView = port_view v (view c.acknowledged.new.line) c.in_ok-frames.frames.items c.self.inside.pass.table_id c.self.inside.pass.id in
    subst (λ (x : PortView). PortGoesOn x b) c.self.view_is (goes_on a b (A.Acknowledged c.board.result.now ∷ []) (record { table = refl; pass = refl; setup = refl; me = refl }) c.acknowledged.ensures.noted (tt, tt))

pub returns-clause-ok : goal.returns-clause-ok
returns-clause-ok c =
    let kept = c.in_ok-said.ensures.made in
    let made = kept.lacks in
    let now = stored_there c.in_ok-said.field-0.said (node_of c.self.inside.node) _ made.after _ c.in_ok-said.ensures.node made.stores c.acknowledge.ensures.gives ∙ (invariant_of-self-2 c).2.node_is in
    let spelled = subst (λ frames. AreSpelled frames kept.parts) (sym c.in_ok-frames.ensures) kept.spelled in
    let deltas = new_deltas c.args.limit (node_of c.self.inside.node) _ c.in_ok-frames.frames.items kept.parts made spelled in
    record {
      said = c.board.result.now;
      journal = c.acknowledged.ensures.noted ∙ ap (λ (b : PortView). b.journal ++ A.Acknowledged c.board.result.now ∷ []) c.self.view_is;
      deltas = subst (λ (x : NodeView × NodeView). AreDeltas c.args.limit x.0 x.1 c.in_ok-frames.frames.items) (λ k. ((c.self.invariant.2.node_is ∙ ap node_in c.self.view_is) k, now k)) deltas;
    }

pub returns-clause-some : goal.returns-clause-some
returns-clause-some c none =
    let v = view c.self.inside.pass in
    let deltas = (returns-clause-ok c).deltas in
    deltas_some v.setup (seat_of v).me (view c.acknowledged.new.line) c.in_ok-frames.frames.items deltas.join none
