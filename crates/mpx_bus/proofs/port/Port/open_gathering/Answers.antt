use Rattle.std.proofs.Common.{◌≡◌, [], ◌∷◌, Ok, ℤ, to_z, of_z, refl, ap, ◌∙◌, subst}
use Rattle.std.specs.Int.{w128}
use Rattle.std.proofs.lemmas.Int.{to_z-of_z}
use Rattle.crossbeam_queue.specs.Passes.{view}
use Rattle.mpx_node.specs.Nodes.{NodeView, Opens, gathers_on}
use Rattle.mpx_node.specs.Shown.{node_of}
use Rattle.mpx_bus.specs.declared.act.Act.TheVariants as A
use Rattle.mpx_bus.specs.Acts.{process_at}
use Rattle.mpx_bus.specs.Views.{seat_of}
use Rattle.mpx_bus.specs.Ports.{PortView, port_view, node_in, PortGoesOn}
use Rattle.mpx_bus.proofs.Ports.{port_local, gather_does, kept_later}
use Rattle.mpx_bus.proofs.Goes.{goes_on}
use Rattle.mpx_bus.proofs.port.Port.open_gathering.Goals as goal

pub invariant_of-self : goal.invariant_of-self
invariant_of-self c =
    let i = c.self.invariant in
    let v = view c.self.inside.pass in
    let a = A.Gathered c.args.parent.now (to_z w128 (of_z w128 c.args.tag)) c.args.ranks.now in
    let does = gather_does v.setup.operations c.args.parent.now (to_z w128 (of_z w128 c.args.tag)) c.args.ranks.now c.in-Ok.name (process_at v.setup (seat_of v).me (view c.self.inside.line)) (node_of c.self.inside.node) (node_of c.open_gathering.new.self) i.2.node_is c.in-Ok.ensures in (
      i.0,
      (c.gathered.ensures.same.0 ∙ i.1.0, c.gathered.ensures.same.2 ∙ i.1.1),
      port_local (node_of c.self.inside.node) (node_of c.open_gathering.new.self) v (view c.self.inside.line) (view c.gathered.new.line) a i.2 tt does c.gathered.ensures.noted,
      kept_later v.setup (seat_of v).me (view c.self.inside.line) (view c.gathered.new.line) (a ∷ []) c.self.inside.kept.items c.gathered.ensures.noted i.3,
    )

pub returns-in-Ok-clause-port : goal.returns-in-Ok-clause-port
returns-in-Ok-clause-port c =
    let v = view c.self.inside.pass in
    let a : PortView = port_view v (view c.self.inside.line) c.self.inside.kept.items c.self.inside.pass.table_id c.self.inside.pass.id in
    let b : PortView = port_view v (view c.gathered.new.line) c.self.inside.kept.items c.self.inside.pass.table_id c.self.inside.pass.id in
    subst (λ (x : PortView). PortGoesOn x b) c.self.view_is (goes_on a b (A.Gathered c.args.parent.now (to_z w128 (of_z w128 c.args.tag)) c.args.ranks.now ∷ []) (record { table = refl; pass = refl; setup = refl; me = refl }) c.gathered.ensures.noted (tt, tt))

pub returns-in-Ok-clause-node : goal.returns-in-Ok-clause-node
returns-in-Ok-clause-node c =
    let i = (invariant_of-self c).2 in
    let read : to_z w128 (of_z w128 c.args.tag) ≡ c.args.tag = to_z-of_z w128 c.args.tag c.ranges.tag in
    subst (λ (x : NodeView × NodeView × ℤ). Opens c.args.parent.now (gathers_on x.0 c.args.parent.now x.2 c.args.ranks.now) (Ok c.in-Ok.name) x.0 x.1)
    (λ j. ((c.self.invariant.2.node_is ∙ ap (λ (b : PortView). node_in b) c.self.view_is) j, i.node_is j, read j)) c.in-Ok.ensures
