use Rattle.std.proofs.Common.{List, [], ◌∷◌, Ok, Err, refl, sym, ap, ◌∙◌, subst}
use Rattle.crossbeam_queue.specs.Passes.{view}
use Rattle.mpx_num.specs.declared.own.Operation.{Operation}
use Rattle.mpx_node.specs.Nodes.{NodeView, Posts, checked_on}
use Rattle.mpx_node.specs.Shown.{node_of}
use Rattle.mpx_bus.specs.declared.act.Act.{Act}
use Rattle.mpx_bus.specs.declared.act.Act.TheVariants as A
use Rattle.mpx_bus.specs.Acts.{process_at}
use Rattle.mpx_bus.specs.Views.{seat_of}
use Rattle.mpx_bus.specs.Ports.{PortView, port_view, node_in, PortGoes, MayPushAll}
use Rattle.mpx_bus.proofs.Ports.{port_local, port_same, post_does, post_same, kept_later}
use Rattle.mpx_bus.proofs.Goes.{goes}
use Rattle.mpx_bus.proofs.port.Port.post.Goals as goal

pub invariant_of-self : goal.invariant_of-self
invariant_of-self g c =
    let i = c.self.invariant in
    let v = view c.self.inside.pass in
    let list = c.requires ∙ sym (ap (λ (b : PortView). b.setup.operations) c.self.view_is) in
    let posts = subst (λ o. Posts c.args.name.now (checked_on o (node_of c.self.inside.node) c.args.name.now c.args.draft) (Ok c.in-Ok.call) (node_of c.self.inside.node) (node_of c.post.new.self)) list c.in-Ok.ensures in
    let does = post_does v.setup.operations c.args.name.now c.args.draft c.in-Ok.call (process_at v.setup (seat_of v).me (view c.self.inside.line)) (node_of c.self.inside.node) (node_of c.post.new.self) i.2.node_is posts in (
      i.0,
      c.posted-next.ensures.made.0,
      port_local (node_of c.self.inside.node) (node_of c.post.new.self) v (view c.self.inside.line) (view c.posted-next.result) (A.Posted c.args.name.now c.args.draft) i.2 tt does c.posted-next.ensures.made.1,
      kept_later v.setup (seat_of v).me (view c.self.inside.line) (view c.posted-next.result) (A.Posted c.args.name.now c.args.draft ∷ []) c.self.inside.kept.items c.posted-next.ensures.made.1 i.3,
    )

pub invariant_of-self-in-Err-1 : goal.invariant_of-self-in-Err-1
invariant_of-self-in-Err-1 g c =
    let i = c.self.invariant in
    let v = view c.self.inside.pass in
    let same = c.posted-next.ensures.same in (
      i.0,
      (same.0.0 ∙ i.1.0, same.0.2 ∙ i.1.1),
      port_same (node_of c.self.inside.node) (node_of c.post.new.self) v (view c.self.inside.line) (view c.posted-next.new.line) i.2 (post_same c.args.name.now (checked_on _ (node_of c.self.inside.node) c.args.name.now c.args.draft) c.in-Err.refusal (node_of c.self.inside.node) (node_of c.post.new.self) c.in-Err.ensures) same.1,
      subst (λ (j : List Act). MayPushAll v.setup (seat_of v).me j c.self.inside.kept.items) (sym same.1) i.3,
    )

pub returns-in-Ok-clause-port : goal.returns-in-Ok-clause-port
returns-in-Ok-clause-port g c =
    let v = view c.self.inside.pass in
    let a : PortView = port_view v (view c.self.inside.line) c.self.inside.kept.items c.self.inside.pass.table_id c.self.inside.pass.id in
    let b : PortView = port_view v (view c.posted-next.result) c.self.inside.kept.items c.self.inside.pass.table_id c.self.inside.pass.id in
    subst (λ (x : PortView). PortGoes x b) c.self.view_is (goes a b (A.Posted c.args.name.now c.args.draft ∷ []) (record { table = refl; pass = refl; setup = refl; me = refl }) c.posted-next.ensures.made.1)

pub returns-in-Ok-clause-node : goal.returns-in-Ok-clause-node
returns-in-Ok-clause-node g c =
    let i = (invariant_of-self g c).2 in
    subst (λ (x : NodeView × NodeView × List Operation). Posts c.args.name.now (checked_on x.2 x.0 c.args.name.now c.args.draft) (Ok c.in-Ok.call) x.0 x.1)
    (λ j. ((c.self.invariant.2.node_is ∙ ap (λ (b : PortView). node_in b) c.self.view_is) j, i.node_is j, c.requires j)) c.in-Ok.ensures

pub returns-in-Err-clause-node : goal.returns-in-Err-clause-node
returns-in-Err-clause-node g c =
    let i = (invariant_of-self-in-Err-1 g c).2 in
    subst (λ (x : NodeView × NodeView × List Operation). Posts c.args.name.now (checked_on x.2 x.0 c.args.name.now c.args.draft) (Err c.in-Err.refusal) x.0 x.1)
    (λ j. ((c.self.invariant.2.node_is ∙ ap (λ (b : PortView). node_in b) c.self.view_is) j, i.node_is j, c.requires j)) c.in-Err.ensures
