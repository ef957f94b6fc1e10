-- What a held port answers a ticket, at a moment of the call.
use Rattle.std.proofs.Common.{ℕ, List}
use Rattle.std.specs.Prelude.{Result, Ok, Err, IfOk, OnErr}
use Rattle.atomic_table.specs.Seated.{TableId}
use Rattle.join_core.specs.declared.memory.OutOfMemory.{OutOfMemory}
use Rattle.mpx_bus.specs.declared.act.Act.{Act}
use Rattle.mpx_bus.specs.declared.act.Setup.{Setup}
use Rattle.mpx_bus.specs.Ports.{PortView}
use Rattle.mpx_ticket.specs.declared.ticket.Ticket.{Ticket}
use Rattle.mpx_ticket.specs.declared.ticket.TicketTested.{TicketTested}
use Rattle.mpx_ticket.specs.Tickets.{HoldsAnswer, IsAnswer}
use Rattle.mpx_shared.specs.LawfulPorts.{HasGoneOn, IsLawful}
use Rattle.mpx_shared.specs.Tickets.{AnswersTicket, HeldAnswer}

module _ {table : TableId} {setup : Setup} {me : ℕ} {opening : List Act} (port : PortView) (ticket : Ticket) (lawful : IsLawful table setup me port) (since : HasGoneOn setup me opening port) where
  pub answers_then : (r : Result TicketTested OutOfMemory) → IfOk r (λ tested. IsAnswer port ticket tested) → IfOk r (λ tested. AnswersTicket table setup me opening ticket tested)
  answers_then (Ok tested) answer = record { port = port; lawful = lawful; gone_on = since; answer = answer }
  answers_then (Err e) answer = tt

  pub answer_wanted : (r : Result TicketTested OutOfMemory) → OnErr r (HoldsAnswer port ticket) → OnErr r (HeldAnswer table setup me opening ticket)
  answer_wanted (Ok tested) holds = tt
  answer_wanted (Err e) holds = record { port = port; lawful = lawful; gone_on = since; holds = holds }
