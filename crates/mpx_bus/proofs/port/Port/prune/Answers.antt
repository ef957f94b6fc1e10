use Rattle.std.proofs.Common.{[], ◌∷◌, refl, ◌∙◌, subst}
use Rattle.crossbeam_queue.specs.Passes.{view}
use Rattle.mpx_node.specs.Shown.{node_of}
use Rattle.mpx_bus.specs.declared.act.Act.TheVariants as A
use Rattle.mpx_bus.specs.Acts.{process_at}
use Rattle.mpx_bus.specs.Views.{seat_of}
use Rattle.mpx_bus.specs.Ports.{PortView, port_view, PortGoesOn}
use Rattle.mpx_bus.proofs.Ports.{port_local, prune_does, kept_later}
use Rattle.mpx_bus.proofs.Goes.{goes_on}
use Rattle.mpx_bus.proofs.port.Port.prune.Goals as goal

pub invariant_of-self : goal.invariant_of-self
invariant_of-self c =
    let i = c.self.invariant in
    let v = view c.self.inside.pass in
    let a = A.Pruned c.args.name.now c.args.number in
    let does = prune_does v.setup.operations c.args.name.now c.args.number c.in-Ok.field-0 (process_at v.setup (seat_of v).me (view c.self.inside.line)) (node_of c.self.inside.node) (node_of c.prune.new.self) i.2.node_is c.in-Ok.ensures.answer c.in-Ok.ensures.ok in (
      i.0,
      (c.pruned.ensures.same.0 ∙ i.1.0, c.pruned.ensures.same.2 ∙ i.1.1),
      port_local (node_of c.self.inside.node) (node_of c.prune.new.self) v (view c.self.inside.line) (view c.pruned.new.line) a i.2 tt does c.pruned.ensures.noted,
      kept_later v.setup (seat_of v).me (view c.self.inside.line) (view c.pruned.new.line) (a ∷ []) c.self.inside.kept.items c.pruned.ensures.noted i.3,
    )

pub returns-in-Ok-clause-port : goal.returns-in-Ok-clause-port
returns-in-Ok-clause-port c =
    let v = view c.self.inside.pass in
    let a : PortView = port_view v (view c.self.inside.line) c.self.inside.kept.items c.self.inside.pass.table_id c.self.inside.pass.id in
    let b : PortView = port_view v (view c.pruned.new.line) c.self.inside.kept.items c.self.inside.pass.table_id c.self.inside.pass.id in
    subst (λ (x : PortView). PortGoesOn x b) c.self.view_is (goes_on a b (A.Pruned c.args.name.now c.args.number ∷ []) (record { table = refl; pass = refl; setup = refl; me = refl }) c.pruned.ensures.noted (tt, tt))
