use Rattle.std.proofs.Common.{[], ◌∷◌, ◌++◌, sym, ap, ◌∙◌, subst}
use Rattle.crossbeam_queue.specs.Passes.{view}
use Rattle.mpx_bus.specs.Views.{seat_of}
use Rattle.mpx_bus.specs.Ports.{PortView, port_view, PortGoesOn}
use Rattle.mpx_bus.specs.Answers.{PushesLast}
use Rattle.mpx_bus.proofs.Ports.{fewer_kept, last_kept}
use Rattle.mpx_bus.proofs.Goes.{goes_kept}
use Rattle.mpx_bus.proofs.Answers.{goes_push, last_of_one}
use Rattle.mpx_bus.proofs.port.Bus.push_kept.Goals as goal

pub invariant_of-port : goal.invariant_of-port
invariant_of-port g c =
    let i = c.port.invariant in
    let v = view c.port.inside.pass in
    (i.0, i.1, i.2, fewer_kept v.setup (seat_of v).me (view c.port.inside.line) c.port.inside.kept.items c.pop.new.self.items c.in-Some.frame c.in-Some.ensures.items i.3)

pub push-requires-clause-frame : goal.push-requires-clause-frame
push-requires-clause-frame g c =
    let v = view c.port.inside.pass in
    last_kept v.setup (seat_of v).me (view c.port.inside.line) c.port.inside.kept.items c.pop.new.self.items c.in-Some.frame c.in-Some.ensures.items c.port.invariant.3

pub returns-clause-port : goal.returns-clause-port
returns-clause-port g c =
    let a : PortView = port_view (view c.port.inside.pass) (view c.port.inside.line) c.port.inside.kept.items c.port.inside.pass.table_id c.port.inside.pass.id in
    subst (λ (b : PortView). PortGoesOn b c.push.new.port) c.port.view_is (goes_kept a c.pop.new.self.items c.push.new.port (goes_push c.in-Some.frame c.push.result _ c.push.new.port c.push.ensures.port c.push.ensures.answer))

pub returns-clause-next : goal.returns-clause-next
returns-clause-next g c =
    let v = view c.port.inside.pass in
    let a : PortView = port_view v (view c.port.inside.line) c.port.inside.kept.items c.port.inside.pass.table_id c.port.inside.pass.id in
    let may = last_kept v.setup (seat_of v).me (view c.port.inside.line) c.port.inside.kept.items c.pop.new.self.items c.in-Some.frame c.in-Some.ensures.items c.port.invariant.3 in (
      c.in-Some.frame,
      ap (λ (b : PortView). b.kept) (sym c.port.view_is) ∙ c.in-Some.ensures.items ∙ ap (λ xs. xs ++ c.in-Some.frame ∷ []) (sym c.push.ensures.kept),
      subst (λ (b : PortView). PushesLast c.in-Some.frame c.push.result b c.push.new.port) c.port.view_is (last_of_one c.in-Some.frame c.push.result a c.pop.new.self.items c.push.new.port may c.push.ensures.answer),
    )
