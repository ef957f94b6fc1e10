use Rattle.std.proofs.Common.{◌++◌, ◌∷◌, [], List, sym, ap, ◌∙◌, subst}
use Rattle.crossbeam_queue.specs.Passes.{view}
use Rattle.mpx_node.specs.Shown.{node_of}
use Rattle.mpx_bus.specs.declared.act.Act.{Act}
use Rattle.mpx_bus.specs.declared.act.Act.TheVariants as A
use Rattle.mpx_bus.specs.Acts.{IsAhead, MayPush}
use Rattle.mpx_bus.specs.Views.{seat_of}
use Rattle.mpx_bus.specs.Rule.{IsPlanned}
use Rattle.mpx_bus.specs.Ports.{PortView, IsPort, MayPushAll}
use Rattle.mpx_bus.proofs.Moves.{pushes}
use Rattle.mpx_bus.proofs.Ports.{port_pushed, kept_pushed}
use Rattle.mpx_bus.proofs.port.Bus.push.Goals as goal

pub push_to-requires-clause-rule : goal.push_to-requires-clause-rule
push_to-requires-clause-rule g c =
    let i = c.port.invariant.2 in
    let v = view c.port.inside.pass in
    let same = sym c.pushed-next.ensures.same.1 in
    pushes _ _ v (view c.pushed-next.new.line) c.args.frame i.stands (subst (λ (j : List Act). IsAhead v.setup (seat_of v).me (seat_of v).journal j) same i.ahead)
    (subst (λ (j : List Act). IsPlanned v.setup (seat_of v).me j) same (subst (λ (b : PortView). IsPlanned b.setup b.me b.journal) (sym c.port.view_is) c.requires.plan))
    (subst (λ (j : List Act). MayPush v.setup (seat_of v).me j c.args.frame) same (subst (λ (b : PortView). MayPush b.setup b.me b.journal c.args.frame) (sym c.port.view_is) c.requires.frame))

pub invariant_of-port : goal.invariant_of-port
invariant_of-port g c =
    let i = c.port.invariant in
    let v = view c.port.inside.pass in
    let same = sym c.pushed-next.ensures.same.1 in (
      c.push_to.ensures.queue.2 ∙ i.0,
      c.pushed-next.ensures.made.0,
      port_pushed (node_of c.port.inside.node) v (view c.push_to.new.pass) (view c.pushed-next.new.line) (view c.pushed-next.result) c.args.frame (subst (λ (j : List Act). IsPort (node_of c.port.inside.node) v j) same i.2)
          c.in-Ok.ensures.rule.0 c.in-Ok.ensures.rule.1 (c.pushed-next.ensures.made.1 ∙ ap (λ (j : List Act). j ++ A.Pushed c.args.frame ∷ []) same),
      kept_pushed v (view c.push_to.new.pass) (view c.pushed-next.new.line) (view c.pushed-next.result) c.args.frame c.port.inside.kept.items c.in-Ok.ensures.rule.0 (c.pushed-next.ensures.made.1 ∙ ap (λ (j : List Act). j ++ A.Pushed c.args.frame ∷ []) same)
          (subst (λ (j : List Act). MayPushAll v.setup (seat_of v).me j c.port.inside.kept.items) same i.3),
    )
