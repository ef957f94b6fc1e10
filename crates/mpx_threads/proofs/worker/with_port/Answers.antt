use Rattle.std.proofs.Common.{◌≡◌, ◌∙◌, List, ap, false, length, refl, subst, sym, true}
use Rattle.mpx_node.specs.Nodes.{NodeView}
use Rattle.mpx_shared.specs.LawfulPorts.{made_in}
use Rattle.mpx_meaning.specs.Ends.{end_view}
use Rattle.mpx_meaning.specs.Evaluation.{statements_of}
use Rattle.mpx_meaning.specs.declared.line.Line.{Line}
use Rattle.mpx_threads.specs.Work.{AreHeld, end_first}
use Rattle.mpx_threads.proofs.Holding.{has_not_worked, has_worked}
use Rattle.mpx_threads.proofs.Plans.{statements_at}
use Rattle.mpx_threads.proofs.worker.with_port.Goals as goal

pub returns-then-are_held-clause-worked : goal.returns-then-are_held-clause-worked
returns-then-are_held-clause-worked g c = λ relays.
    let d = g.L.PortLock in
    let held = subst (λ (x : NodeView × List Line). AreHeld x.0 x.1) (λ i. (c.node.ensures.node i, c.as_slice.ensures.value i)) (sym c.are_held.ensures ∙ c.if-are_held.true) in
    has_worked d.table c.args.script.now relays d.setup d.me c.args.port (length (made_in c.args.port)) (end_view c.args.end) c.requires.port c.requires.come refl held

pub returns-clause-worked : goal.returns-clause-worked
returns-clause-worked g c = λ relays.
    let d = g.L.PortLock in
    let script = c.args.script.now.statements in
    has_not_worked d.table c.args.script.now relays d.setup d.me c.args.port (end_view c.end_first-end.result) c.requires.port
    (c.end_first-end.ensures ∙ ap end_first (c.statements.ensures ∙ statements_at script c.number.result ∙ ap (statements_of script) (c.number.ensures.number ∙ c.requires.me)))

pub returns-clause-whole : goal.returns-clause-whole
returns-clause-whole g c = λ held.
    let lacked = subst (λ (x : NodeView × List Line). AreHeld x.0 x.1) (λ i. (sym c.node.ensures.node i, sym c.as_slice.ensures.value i)) held in
    let never : true ≡ false = sym lacked ∙ sym c.are_held.ensures ∙ c.if-are_held.false in
    cc never
