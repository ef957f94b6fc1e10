use Rattle.std.proofs.Common.{List, [], ◌∷◌, Ok, is_some, refl, sym, ap, ◌∙◌, subst}
use Rattle.crossbeam_queue.specs.Passes.{view}
use Rattle.mpx_num.specs.declared.own.Operation.{Operation}
use Rattle.mpx_node.specs.Nodes.{NodeView, next_result}
use Rattle.mpx_node.specs.Shown.{node_of}
use Rattle.mpx_bus.specs.declared.act.Act.TheVariants as A
use Rattle.mpx_bus.specs.Acts.{process_at}
use Rattle.mpx_bus.specs.Views.{seat_of}
use Rattle.mpx_bus.specs.Ports.{PortView, port_view, node_in, PortGoesOn}
use Rattle.mpx_bus.proofs.Ports.{port_local, harvest_does, kept_later}
use Rattle.mpx_bus.proofs.Goes.{goes_on}
use Rattle.mpx_node.specs.declared.node.Harvest.{Harvest}
use Rattle.mpx_node.specs.Harvests.{Harvests}
use Rattle.mpx_bus.proofs.port.Port.harvest.Goals as goal

pub invariant_of-self-in-Done : goal.invariant_of-self-in-Done
invariant_of-self-in-Done g c =
    let i = c.self.invariant in
    let v = view c.self.inside.pass in
    let a = A.Harvested c.args.name.now in
    let list = c.requires ∙ sym (ap (λ (b : PortView). b.setup.operations) c.self.view_is) in
    let harvests = subst (λ (x : Harvest × List Operation). Harvests x.1 (is_some ((node_of c.self.inside.node).opened c.args.name.now)) c.args.name.now (next_result x.1 (node_of c.self.inside.node) c.args.name.now) (Ok x.0) (node_of c.self.inside.node) (node_of c.harvest.new.self)) (λ j. (c.in-Done.is j, list j)) c.in_ok-call.ensures in
    let does = harvest_does v.setup.operations c.args.name.now c.in-Done.call (process_at v.setup (seat_of v).me (view c.self.inside.line)) (node_of c.self.inside.node) (node_of c.harvest.new.self) i.2.node_is harvests in (
      i.0,
      (c.harvested.ensures.same.0 ∙ i.1.0, c.harvested.ensures.same.2 ∙ i.1.1),
      port_local (node_of c.self.inside.node) (node_of c.harvest.new.self) v (view c.self.inside.line) (view c.harvested.new.line) a i.2 tt does c.harvested.ensures.noted,
      kept_later v.setup (seat_of v).me (view c.self.inside.line) (view c.harvested.new.line) (a ∷ []) c.self.inside.kept.items c.harvested.ensures.noted i.3,
    )

pub returns-in-Done-clause-port : goal.returns-in-Done-clause-port
returns-in-Done-clause-port g c =
    let v = view c.self.inside.pass in
    let a : PortView = port_view v (view c.self.inside.line) c.self.inside.kept.items c.self.inside.pass.table_id c.self.inside.pass.id in
    let b : PortView = port_view v (view c.harvested.new.line) c.self.inside.kept.items c.self.inside.pass.table_id c.self.inside.pass.id in
    subst (λ (x : PortView). PortGoesOn x b) c.self.view_is (goes_on a b (A.Harvested c.args.name.now ∷ []) (record { table = refl; pass = refl; setup = refl; me = refl }) c.harvested.ensures.noted (tt, tt))

pub returns-in-Done-clause-node : goal.returns-in-Done-clause-node
returns-in-Done-clause-node g c =
    let i = (invariant_of-self-in-Done g c).2 in
    subst (λ (x : NodeView × NodeView × List Operation × Harvest). Harvests x.2 (is_some (x.0.opened c.args.name.now)) c.args.name.now (next_result x.2 x.0 c.args.name.now) (Ok x.3) x.0 x.1)
    (λ j. ((c.self.invariant.2.node_is ∙ ap (λ (b : PortView). node_in b) c.self.view_is) j, i.node_is j, c.requires j, c.in-Done.is j)) c.in_ok-call.ensures
