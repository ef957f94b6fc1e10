use Rattle.std.proofs.Common.{[], ◌∷◌, refl, sym, ap, ◌∙◌, subst}
use Rattle.crossbeam_queue.specs.Passes.{view}
use Rattle.mpx_node.specs.Nodes.{NodeView}
use Rattle.mpx_node.specs.Forgetting.{forgets}
use Rattle.mpx_node.specs.Shown.{node_of}
use Rattle.mpx_bus.specs.declared.act.Act.TheVariants as A
use Rattle.mpx_bus.specs.Acts.{process_at}
use Rattle.mpx_bus.specs.Views.{seat_of}
use Rattle.mpx_bus.specs.Ports.{PortView, port_view, node_in, PortGoesOn}
use Rattle.mpx_bus.proofs.Ports.{port_local, forget_does, kept_later}
use Rattle.mpx_bus.proofs.Goes.{goes_on}
use Rattle.mpx_bus.proofs.port.Port.forget.Goals as goal

pub invariant_of-self : goal.invariant_of-self
invariant_of-self c =
    let i = c.self.invariant in
    let v = view c.self.inside.pass in
    let a = A.Forgot c.args.name.now c.args.below in
    let does = forget_does v.setup.operations c.args.name.now c.args.below (process_at v.setup (seat_of v).me (view c.self.inside.line)) (node_of c.self.inside.node) (node_of c.forget.new.self) i.2.node_is c.forget.ensures in (
      i.0,
      (c.forgot.ensures.same.0 ∙ i.1.0, c.forgot.ensures.same.2 ∙ i.1.1),
      port_local (node_of c.self.inside.node) (node_of c.forget.new.self) v (view c.self.inside.line) (view c.forgot.new.line) a i.2 tt does c.forgot.ensures.noted,
      kept_later v.setup (seat_of v).me (view c.self.inside.line) (view c.forgot.new.line) (a ∷ []) c.self.inside.kept.items c.forgot.ensures.noted i.3,
    )

pub returns-clause-port : goal.returns-clause-port
returns-clause-port c =
    let v = view c.self.inside.pass in
    let a : PortView = port_view v (view c.self.inside.line) c.self.inside.kept.items c.self.inside.pass.table_id c.self.inside.pass.id in
    let b : PortView = port_view v (view c.forgot.new.line) c.self.inside.kept.items c.self.inside.pass.table_id c.self.inside.pass.id in
    subst (λ (x : PortView). PortGoesOn x b) c.self.view_is (goes_on a b (A.Forgot c.args.name.now c.args.below ∷ []) (record { table = refl; pass = refl; setup = refl; me = refl }) c.forgot.ensures.noted (tt, tt))

pub returns-clause-node : goal.returns-clause-node
returns-clause-node c =
    let i = (invariant_of-self c).2 in
    sym i.node_is ∙ c.forget.ensures ∙ ap (λ (n : NodeView). forgets c.args.name.now c.args.below n) (c.self.invariant.2.node_is ∙ ap (λ (b : PortView). node_in b) c.self.view_is)
