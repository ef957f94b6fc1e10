-- What the calls of a shared port tell of the port under its lock, at a moment of the call.
use Rattle.std.specs.Prelude.{◌≡◌, ℕ, ℤ, Bool, List, [], ◌∷◌, ◌++◌, length, Option, Some, Result, Ok, Err, IfOk}
use Rattle.atomic_table.specs.Seated.{TableId}
use Rattle.mpx_name.specs.Name.{Name}
use Rattle.mpx_post.specs.Posts.{Given}
use Rattle.mpx_birth.specs.Births.{BirthView}
use Rattle.mpx_post.specs.declared.draft.Draft.{Draft}
use Rattle.mpx_post.specs.declared.draft.PostError.{PostError}
use Rattle.mpx_board.specs.Boards.{told}
use Rattle.mpx_value.specs.Histories.{has_freed}
use Rattle.mpx_node.specs.Nodes.{Opens, Posts, checked_on, gathers_on}
use Rattle.mpx_bus.specs.declared.act.Setup.{Setup}
use Rattle.mpx_bus.specs.declared.act.Act.{Act}
use Rattle.mpx_bus.specs.declared.act.Act.TheVariants as A
use Rattle.mpx_bus.specs.Ports.{PortView, PortGoes, node_in}
use Rattle.mpx_ticket.specs.declared.ticket.Ticket.{Ticket}
use Rattle.mpx_ticket.specs.declared.ticket.TicketTested.{TicketTested}
use Rattle.mpx_ticket.specs.Tickets.{HoldsAnswer, IsAnswer}
use Rattle.mpx_shared.specs.LawfulPorts.{HasGoneOn, IsLawful, MakesNoPost, made_in}

-- the number of the ticket's call, or the refusal
abbrev pub call_of : Result Ticket PostError → Result ℕ PostError
call_of (Ok ticket) = Ok ticket.call
call_of (Err refusal) = Err refusal

-- the ticket has this name, and the post that the draft comes to
abbrev pub IsTicketOf : Name → Result Given PostError → Result Ticket PostError → Type 0
IsTicketOf name checked result = IfOk result (λ ticket. (ticket.name ≡ name) × (checked ≡ Ok ticket.post))

-- the post stands in the journal as the one act of the call; a refusal leaves the port as it was
abbrev pub PostsOne : Name → Draft → Result Ticket PostError → PortView → PortView → Type 0
PostsOne name draft (Ok ticket) old new = new.journal ≡ old.journal ++ A.Posted name draft ∷ []
PostsOne name draft (Err refusal) old new = new ≡ old

-- the port had made so many posts, and then made this one and did nothing else, or refused it
pub record PostsThen (table : TableId) (setup : Setup) (me : ℕ) (opening : List Act) (count : ℕ) (name : Name) (draft : Draft) (result : Result Ticket PostError) : Type 0 where
  pub before : PortView
  pub after : PortView
  pub lawful_before : IsLawful table setup me before
  pub lawful_after : IsLawful table setup me after
  pub gone_on : HasGoneOn setup me opening before
  pub counted : length (made_in before) ≡ count
  pub posts : Posts name (checked_on setup.operations (node_in before) name draft) (call_of result) (node_in before) (node_in after)
  pub ticket : IsTicketOf name (checked_on setup.operations (node_in before) name draft) result
  pub goes : PortGoes before after
  pub acts : PostsOne name draft result before after
  pub kept : after.kept ≡ before.kept

-- the port answered the ticket so
pub record AnswersTicket (table : TableId) (setup : Setup) (me : ℕ) (opening : List Act) (ticket : Ticket) (tested : TicketTested) : Type 0 where
  pub port : PortView
  pub lawful : IsLawful table setup me port
  pub gone_on : HasGoneOn setup me opening port
  pub answer : IsAnswer port ticket tested

-- the port held a result that answers the ticket
pub record HeldAnswer (table : TableId) (setup : Setup) (me : ℕ) (opening : List Act) (ticket : Ticket) : Type 0 where
  pub port : PortView
  pub lawful : IsLawful table setup me port
  pub gone_on : HasGoneOn setup me opening port
  pub holds : HoldsAnswer port ticket

-- the gathering stands in the journal as the one act of the call; a refusal leaves the port as it was
abbrev pub GathersOne : Name → ℤ → List ℤ → Result Name PostError → PortView → PortView → Type 0
GathersOne parent tag ranks (Ok name) old new = new.journal ≡ old.journal ++ A.Gathered parent tag ranks ∷ []
GathersOne parent tag ranks (Err refusal) old new = new ≡ old

-- the port had made so many posts, and then opened the gathering and did nothing else, or refused it
pub record OpensThen (table : TableId) (setup : Setup) (me : ℕ) (opening : List Act) (count : ℕ) (parent : Name) (tag : ℤ) (ranks : List ℤ) (result : Result Name PostError) : Type 0 where
  pub before : PortView
  pub after : PortView
  pub lawful_before : IsLawful table setup me before
  pub lawful_after : IsLawful table setup me after
  pub gone_on : HasGoneOn setup me opening before
  pub counted : length (made_in before) ≡ count
  pub opens : Opens parent (gathers_on (node_in before) parent tag ranks) result (node_in before) (node_in after)
  pub no_post : MakesNoPost before after
  pub acts : GathersOne parent tag ranks result before after
  pub kept : after.kept ≡ before.kept

-- how the communicator came to be, where the port's board tells it
abbrev pub birth_on : PortView → Name → Option BirthView
birth_on port name = told ((node_in port).board.contexts name).birth

-- the port's board told how the communicator came to be, or didn't
pub record TellsBirth (table : TableId) (setup : Setup) (me : ℕ) (opening : List Act) (name : Name) (birth : Option BirthView) : Type 0 where
  pub port : PortView
  pub lawful : IsLawful table setup me port
  pub gone_on : HasGoneOn setup me opening port
  pub told : birth_on port name ≡ birth

-- it did
pub record ToldBirth (table : TableId) (setup : Setup) (me : ℕ) (opening : List Act) (name : Name) : Type 0 where
  pub birth : BirthView
  pub tells : TellsBirth table setup me opening name (Some birth)

-- the port, which had made so many posts, had posted a free on the context, or hadn't
pub record TellsClosed (table : TableId) (setup : Setup) (me : ℕ) (opening : List Act) (count : ℕ) (name : Name) (closed : Bool) : Type 0 where
  pub port : PortView
  pub lawful : IsLawful table setup me port
  pub gone_on : HasGoneOn setup me opening port
  pub counted : length (made_in port) ≡ count
  pub told : closed ≡ has_freed name (made_in port)
