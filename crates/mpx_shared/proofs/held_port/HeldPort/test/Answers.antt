use Rattle.std.proofs.Common.{ℕ, ◌∙◌, List, subst, sym}
use Rattle.std.specs.Prelude.{IfOk, OnErr}
use Rattle.mpx_name.specs.Name.{Name}
use Rattle.mpx_bus.specs.Ports.{PortView}
use Rattle.mpx_ticket.specs.Tickets.{HoldsAnswer, IsAnswer}
use Rattle.mpx_shared.proofs.LawfulPorts.{lawful_of}
use Rattle.mpx_shared.proofs.Answering.{answer_wanted, answers_then}
use Rattle.mpx_shared.proofs.held_port.HeldPort.test.Goals as goal

pub answer_to-requires-clause-me : goal.answer_to-requires-clause-me
answer_to-requires-clause-me g c = c.self.invariant.0 ∙ sym c.self.invariant.1.me_is

pub answer_to-requires-clause-plan : goal.answer_to-requires-clause-plan
answer_to-requires-clause-plan g c = c.self.invariant.1.planned

pub returns-clause-answer : goal.returns-clause-answer
returns-clause-answer g c = subst (λ (x : PortView × (ℕ × List Name)). IfOk c.answer_to.result (λ tested. IsAnswer x.0 c.args.ticket.now tested)) c.self.view_is c.answer_to.ensures.answer

pub returns-clause-memory : goal.returns-clause-memory
returns-clause-memory g c = subst (λ (x : PortView × (ℕ × List Name)). OnErr c.answer_to.result (HoldsAnswer x.0 c.args.ticket.now)) c.self.view_is c.answer_to.ensures.memory

pub returns-clause-then : goal.returns-clause-then
returns-clause-then g c = answers_then c.self.inside.port c.args.ticket.now (lawful_of c.self.inside.port c.self.invariant.1 c.node-node.ensures.stood) c.self.invariant.1.gone_on c.answer_to.result c.answer_to.ensures.answer

pub returns-clause-wanted : goal.returns-clause-wanted
returns-clause-wanted g c = answer_wanted c.self.inside.port c.args.ticket.now (lawful_of c.self.inside.port c.self.invariant.1 c.node-node.ensures.stood) c.self.invariant.1.gone_on c.answer_to.result c.answer_to.ensures.memory
