-- What a shared port answers a ticket, by the plan.
use Rattle.std.proofs.Common.{◌≡◌, ℕ, List, true, Option, Some, None, sym, ◌∙◌, subst}
use Rattle.atomic_table.specs.Seated.{TableId}
use Rattle.mpx_name.specs.Name.{Name}
use Rattle.mpx_birth.specs.Births.{BirthView}
use Rattle.mpx_value.specs.declared.outcomes.Outcome.{Outcome}
use Rattle.mpx_value.specs.declared.outcomes.Outcome.TheVariants.{NewComm}
use Rattle.mpx_value.specs.Histories.{answer_with, born_by}
use Rattle.mpx_node.specs.declared.finished.Finished.{Finished}
use Rattle.mpx_bus.specs.declared.act.Act.{Act}
use Rattle.mpx_bus.specs.declared.act.Setup.{Setup}
use Rattle.mpx_ticket.specs.declared.ticket.Ticket.{Ticket}
use Rattle.mpx_ticket.specs.declared.ticket.TicketTested.{TicketTested}
use Rattle.mpx_ticket.specs.declared.ticket.TicketTested.TheVariants.{Done}
use Rattle.mpx_shared.specs.Laws.{IsPlannedResult}
use Rattle.mpx_shared.specs.Tickets.{AnswersTicket, TellsBirth}
use Rattle.mpx_shared.proofs.LawfulPorts.{lawful_birth, lawful_result}
use Rattle.mpx_shared.proofs.Plans as P
use Rattle.mpx_rank.specs.Answered.{answer_of}
use Rattle.mpx_threads.specs.ToldCalls.{planned_birth}

module _ (table : TableId) (setup : Setup) (me : ℕ) (planned : setup.planned ≡ true) where
  -- a result is the plan's
  pub done_so : {opening : List Act} (ticket : Ticket) (tested : TicketTested) (f : Finished) → AnswersTicket table setup me opening ticket tested → tested ≡ Done f → IsPlannedResult setup me ticket.name ticket.call f
  done_so {opening} ticket tested f answers e =
      let a = subst (AnswersTicket table setup me opening ticket) e answers in
      P.result_is_planned setup me ticket.name ticket.call f planned (lawful_result table setup me a.port ticket.name ticket.call f a.lawful a.answer.0)

  -- and so is a birth
  pub born_so : {opening : List Act} (name : Name) (birth : BirthView) → TellsBirth table setup me opening name (Some birth) → planned_birth setup name ≡ Some birth
  born_so name birth tells = P.birth_is_planned setup name birth planned (lawful_birth table setup me tells.port name birth tells.lawful tells.told)

-- a communicator that was born so
pub comm_so : (setup : Setup) (outcome : Outcome) (new : Name) (size rank : ℕ) (birth : BirthView) → outcome ≡ NewComm new size rank → planned_birth setup new ≡ Some birth → answer_of (record { outcome = outcome; born = Some birth }) ≡ answer_with (planned_birth setup) outcome
comm_so setup outcome new size rank birth e born = subst (λ o. answer_of (record { outcome = o; born = Some birth }) ≡ answer_with (planned_birth setup) o) (sym e) (λ i. record { outcome = NewComm new size rank; born = sym born i })

-- one that names no communicator
pub none_so : (setup : Setup) (outcome : Outcome) (born : Option BirthView) → born ≡ None → born_by (planned_birth setup) outcome ≡ None → answer_of (record { outcome = outcome; born = born }) ≡ answer_with (planned_birth setup) outcome
none_so setup outcome born e f = λ i. record { outcome = outcome; born = (e ∙ sym f) i }
