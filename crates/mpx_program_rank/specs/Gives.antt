-- What a rank's call answers, of what its desk answers.
use Rattle.std.specs.Prelude.{◌≡◌, ◌≢◌, ◌==◌, if◌then◌else◌, ℕ, ℤ, ◌⊎◌, List, [], ◌∷◌, length, Option, Some, None, Result, Ok, Err, IsOk, Vec}
use Rattle.std.specs.declared.alloc.Global.{Global}
use Rattle.mpx_match.specs.declared.faults.Fault.{Fault as FaultView}
use Rattle.mpx_name.specs.Name.{Name}
use Rattle.mpx_num.specs.declared.own.Operation.{Operation}
use Rattle.mpx_post.specs.declared.draft.Draft.{Draft}
use Rattle.mpx_post.specs.declared.draft.PostError.{PostError}
use Rattle.mpx_node.specs.declared.finished.Finished.{Finished}
use Rattle.mpx_node.specs.Nodes.{NodeView}
use Rattle.mpx_request.specs.declared.answers.TurnError.{TurnError}
use Rattle.mpx_request.specs.declared.request.Request.{Request}
use Rattle.mpx_request.specs.Turns.{MakesTurns}
use Rattle.mpx_comm.specs.declared.asking.AskError.{AskError}
use Rattle.mpx_comm.specs.declared.asking.AskError.TheVariants as Q
use Rattle.mpx_comm.specs.declared.answers.CallError.{CallError as DeskError}
use Rattle.mpx_comm.specs.declared.answers.CallError.TheVariants as C
use Rattle.mpx_comm.specs.declared.comm.Comm.{Comm}
use Rattle.mpx_comm.specs.declared.desk.Desk.{Desk}
use Rattle.mpx_comm.specs.Comms.{comm_of}
use Rattle.mpx_comm.specs.Desks.{DeskAsks, DeskCalls, DeskCallsGathered}
use Rattle.mpx_comm.specs.Given.{numbers_given}
use Rattle.mpx_program_rank.specs.declared.call_error.CallError.{CallError}
use Rattle.mpx_program_rank.specs.declared.call_error.Cause.{Cause}
use Rattle.mpx_program_rank.specs.declared.call_error.Cause.TheVariants.{OutOfMemory, Refused, Fault, StillWaiting, NoMemory, GaveUp, LetGo, OutOfRange, NotOne, NoComm, NotKnown, NoTopology}

-- READING

-- what the desk answered where a call has this cause
abbrev pub desk_error : Cause → Option DeskError
desk_error (Refused refusal detail) = Some (C.Refused refusal)
desk_error (StillWaiting (Some request) turns awaited) = Some (C.StillWaiting request)
desk_error (StillWaiting None turns awaited) = None
desk_error (NoMemory (Some request)) = Some (C.OutOfMemory request)
desk_error (NoMemory None) = None
desk_error (GaveUp (Some request) rank) = Some (C.GaveUp request rank)
desk_error (GaveUp None rank) = None
desk_error OutOfMemory = None
desk_error (Fault fault) = None
desk_error (LetGo request) = None
desk_error OutOfRange = None
desk_error (NotOne n) = None
desk_error NoComm = None
desk_error NotKnown = None
desk_error NoTopology = None

-- the rank that gave up
abbrev pub quitter_of : Cause → Option ℕ
quitter_of (GaveUp request rank) = Some rank
quitter_of cause = None

-- the cause where a question about a communicator has no answer
abbrev pub asked : AskError → Cause
asked Q.NotKnown = NotKnown
asked Q.NoTopology = NoTopology
asked Q.OutOfMemory = OutOfMemory

-- why the numbers that a call gave are no list of items: it gave none but a fault, one is out of range, or memory was short
abbrev pub IsUnread : Result (List ℤ) FaultView → Cause → Type 0
IsUnread (Err fault) cause = cause ≡ Fault fault
IsUnread (Ok numbers) cause = (cause ≡ OutOfRange) ⊎ (cause ≡ OutOfMemory)

-- the list of just the numbers that the call gave this rank; or why there is none
abbrev pub IsRead : {T : Type 0} → (numbers : List T → List ℤ) → Result Finished DeskError → Result (Vec T Global) CallError → Type 0
IsRead numbers (Ok finished) (Ok list) = numbers_given finished.outcome ≡ Ok (numbers list.items)
IsRead numbers (Ok finished) (Err e) = IsUnread (numbers_given finished.outcome) e.cause
IsRead numbers (Err why) (Ok list) = ⊥
IsRead numbers (Err why) (Err e) = desk_error e.cause ≡ Some why

-- the one item of a list; or that it has another number of items; or why there is no list
abbrev pub IsOnly : {T : Type 0} → Result (Vec T Global) CallError → Result T CallError → Type 0
IsOnly (Ok list) (Ok item) = list.items ≡ item ∷ []
IsOnly (Ok list) (Err e) = (length list.items ≢ 1) × (e.cause ≡ NotOne (length list.items))
IsOnly (Err why) (Ok item) = ⊥
IsOnly (Err why) (Err e) = e ≡ why

-- the items at the root, and none elsewhere
abbrev pub root_items : {T : Type 0} → (rank root : ℕ) → List T → List T
root_items rank root items = if rank == root then items else []

-- the call is done, and no fault
abbrev pub IsDone : Result Finished DeskError → Result (Unit {0}) CallError → Type 0
IsDone (Ok finished) (Ok u) = IsOk (numbers_given finished.outcome)
IsDone (Ok finished) (Err e) = IsUnread (numbers_given finished.outcome) e.cause
IsDone (Err why) (Ok u) = ⊥
IsDone (Err why) (Err e) = desk_error e.cause ≡ Some why

-- the new communicator that the call gave this rank, or none, and no fault; or why it isn't had
abbrev pub IsComm : Result Finished DeskError → Result (Option Comm) CallError → Type 0
IsComm (Ok finished) (Ok comm) = (comm ≡ comm_of finished.outcome) × IsOk (numbers_given finished.outcome)
IsComm (Ok finished) (Err e) = IsUnread (numbers_given finished.outcome) e.cause
IsComm (Err why) (Ok comm) = ⊥
IsComm (Err why) (Err e) = desk_error e.cause ≡ Some why

-- the new communicator that the call gave this rank; or why it isn't had
abbrev pub IsNewComm : Result Finished DeskError → Result Comm CallError → Type 0
IsNewComm (Ok finished) (Ok comm) = comm_of finished.outcome ≡ Some comm
IsNewComm (Ok finished) (Err e) = IsUnread (numbers_given finished.outcome) e.cause ⊎ ((e.cause ≡ NoComm) × (comm_of finished.outcome ≡ None) × IsOk (numbers_given finished.outcome))
IsNewComm (Err why) (Ok comm) = ⊥
IsNewComm (Err why) (Err e) = desk_error e.cause ≡ Some why

-- CALLS

-- nothing is done for want of memory
abbrev pub IsNotMade : {H : Type 0} {g : _} {A : Type 0} → Result A CallError → (old new : Desk H g) → Type 0
IsNotMade (Ok answer) old new = ⊥
IsNotMade (Err e) old new = (new ≡ old) × (e.cause ≡ OutOfMemory)

-- a call of the desk that blocks, of which this is read; or it isn't made
abbrev pub Gives : {H : Type 0} {g : _} {A : Type 0} → List Operation → (node : H → NodeView) → (turned : H → ℕ → H → Type 0) → (refused : H → TurnError → H → Type 0) → Name → Draft → (turns : ℕ) → (is_read : Result Finished DeskError → Result A CallError → Type 0) → Result A CallError → (old new : Desk H g) → Type 0
Gives ops node turned refused name draft turns is_read result old new =
    IsNotMade result old new ⊎ ((answer : Result Finished DeskError) × DeskCalls ops node turned refused name draft turns answer old new × is_read answer result)

-- the same where the list that the call gives is of one item, and that is answered
abbrev pub GivesOne : {H : Type 0} {g : _} {T : Type 0} → List Operation → (node : H → NodeView) → (turned : H → ℕ → H → Type 0) → (refused : H → TurnError → H → Type 0) → Name → Draft → (turns : ℕ) → (numbers : List T → List ℤ) → Result T CallError → (old new : Desk H g) → Type 0
GivesOne {H} {g} {T} ops node turned refused name draft turns numbers result old new =
    (list : Result (Vec T Global) CallError) × Gives ops node turned refused name draft turns (IsRead numbers) list old new × IsOnly list result

-- the same of `create_group`
abbrev pub GivesGathered : {H : Type 0} {g : _} {A : Type 0} → List Operation → (node : H → NodeView) → (turned : H → ℕ → H → Type 0) → (refused : H → TurnError → H → Type 0) → (parent : Name) → (tag : ℤ) → (ranks : List ℤ) → (turns : ℕ) → (is_read : Result Finished DeskError → Result A CallError → Type 0) → Result A CallError → (old new : Desk H g) → Type 0
GivesGathered ops node turned refused parent tag ranks turns is_read result old new =
    IsNotMade result old new ⊎ ((answer : Result Finished DeskError) × DeskCallsGathered ops node turned refused parent tag ranks turns answer old new × is_read answer result)

-- one turn, made or refused; no request is opened or closed
abbrev pub TurnsOnce : {H : Type 0} {g : _} → (turned : H → ℕ → H → Type 0) → (refused : H → TurnError → H → Type 0) → Result (Unit {0}) TurnError → (old new : Desk H g) → Type 0
TurnsOnce turned refused result old new = MakesTurns turned refused 1 result old.host new.host × (new.requests.keys ≡ old.requests.keys)

-- what is answered where the desk has posted so: the request, after one turn; or the refusal
abbrev pub IsStarted : {H : Type 0} {g : _} {A : Type 0} → (turned : H → ℕ → H → Type 0) → (refused : H → TurnError → H → Type 0) → (request_of : A → Request) → Result Request PostError → Result A CallError → (old new : Desk H g) → Type 0
IsStarted turned refused request_of (Ok request) (Ok pending) old new = (request_of pending ≡ request) × ((made : Result (Unit {0}) TurnError) × TurnsOnce turned refused made old new)
IsStarted turned refused request_of (Ok request) (Err e) old new = ⊥
IsStarted turned refused request_of (Err refusal) (Ok pending) old new = ⊥
IsStarted turned refused request_of (Err refusal) (Err e) old new = (new ≡ old) × (desk_error e.cause ≡ Some (C.Refused refusal))

-- a call of the desk that doesn't block is posted, or refused, and this is answered; or it isn't made
abbrev pub Starts : {H : Type 0} {g : _} {A : Type 0} → List Operation → (node : H → NodeView) → (turned : H → ℕ → H → Type 0) → (refused : H → TurnError → H → Type 0) → Name → Draft → (request_of : A → Request) → Result A CallError → (old new : Desk H g) → Type 0
Starts {H} {g} ops node turned refused name draft request_of result old new =
    IsNotMade result old new ⊎ ((posted : Result Request PostError) × (between : Desk H g) × DeskAsks ops node name draft posted old between
    × turned old.host 0 between.host × IsStarted turned refused request_of posted result between new)
