-- What a rank's waits and tests answer, of what its desk's answer.
use Rattle.std.specs.Prelude.{◌≡◌, ◌≢◌, ℕ, ℤ, Bool, true, false, List, [], Option, Some, None, Result, Ok, Err, IfOk, IfErr, Vec}
use Rattle.std.specs.declared.alloc.Global.{Global}
use Rattle.std.specs.declared.alloc.AllocFailed.{AllocFailed}
use Rattle.join_core.specs.declared.memory.OutOfMemory.{OutOfMemory as NoMemoryView}
use Rattle.mpx_num.specs.declared.own.Operation.{Operation}
use Rattle.mpx_node.specs.declared.finished.Finished.{Finished}
use Rattle.mpx_node.specs.Nodes.{NodeView}
use Rattle.mpx_request.specs.declared.answers.Tested.{Tested}
use Rattle.mpx_request.specs.declared.answers.Tested.TheVariants as T
use Rattle.mpx_request.specs.declared.answers.TurnError.{TurnError}
use Rattle.mpx_request.specs.declared.answers.TurnError.TheVariants as U
use Rattle.mpx_request.specs.declared.answers.WaitError.{WaitError}
use Rattle.mpx_request.specs.declared.answers.WaitError.TheVariants as W
use Rattle.mpx_request.specs.declared.request.Request.{Request}
use Rattle.mpx_request.specs.Later.{IsAtHand}
use Rattle.mpx_request.specs.Requests.{HasStatus, Tests, TestsAny, Waits}
use Rattle.mpx_request.specs.Any.{TestsSome, WaitsAny}
use Rattle.mpx_request.specs.Turns.{MakesTurns}
use Rattle.mpx_comm.specs.declared.desk.Desk.{Desk}
use Rattle.mpx_comm.specs.Given.{numbers_given}
use Rattle.mpx_program_rank.specs.declared.call_error.CallError.{CallError}
use Rattle.mpx_program_rank.specs.declared.call_error.Cause.{Cause}
use Rattle.mpx_program_rank.specs.declared.call_error.Cause.TheVariants.{OutOfMemory, StillWaiting, NoMemory, GaveUp, LetGo}
use Rattle.mpx_program_rank.specs.declared.pending.Done.{Done}
use Rattle.mpx_program_rank.specs.Gives.{IsUnread, TurnsOnce}

-- WAITS

-- what the desk's wait answered where a wait has this cause
abbrev pub wait_error : Cause → Option (WaitError Request)
wait_error (StillWaiting (Some request) turns awaited) = Some (W.StillWaiting request)
wait_error (NoMemory (Some request)) = Some (W.OutOfMemory request)
wait_error (GaveUp (Some request) rank) = Some (W.GaveUp request rank)
wait_error (LetGo (Some request)) = Some (W.LetGo request)
wait_error cause = None

-- the list of just the numbers that the call gave this rank; or why there is none
abbrev pub IsWaited : {T : Type 0} → (numbers : List T → List ℤ) → Result Finished (WaitError Request) → Result (Vec T Global) CallError → Type 0
IsWaited numbers (Ok finished) (Ok list) = numbers_given finished.outcome ≡ Ok (numbers list.items)
IsWaited numbers (Ok finished) (Err e) = IsUnread (numbers_given finished.outcome) e.cause
IsWaited numbers (Err why) (Ok list) = ⊥
IsWaited numbers (Err why) (Err e) = wait_error e.cause ≡ Some why

-- a wait of the desk, of which this is read
abbrev pub WaitGives : {H : Type 0} {g : _} {A : Type 0} → (node : H → NodeView) → (turned : H → ℕ → H → Type 0) → (refused : H → TurnError → H → Type 0) → Request → (turns : ℕ) → (is_read : Result Finished (WaitError Request) → Result A CallError → Type 0) → Result A CallError → (old new : Desk H g) → Type 0
WaitGives node turned refused request turns is_read result old new =
    (answer : Result Finished (WaitError Request)) × Waits node turned refused request turns answer old.host new.host old.requests.keys new.requests.keys × is_read answer result

-- what the desk's wait for any answered where a wait has this cause
abbrev pub any_error : Cause → Option (WaitError (Unit {0}))
any_error (StillWaiting None turns awaited) = Some (W.StillWaiting (tt {0}))
any_error (NoMemory None) = Some (W.OutOfMemory (tt {0}))
any_error (GaveUp None rank) = Some (W.GaveUp (tt {0}) rank)
any_error (LetGo None) = Some (W.LetGo (tt {0}))
any_error cause = None

-- the call that is done, with its result; or none; or why
abbrev pub IsAnyWaited : Result (Option (Request × Finished)) (WaitError (Unit {0})) → Result (Option Done) CallError → Type 0
IsAnyWaited (Ok (Some (request, finished))) (Ok (Some done)) = (done.request ≡ request) × (done.finished ≡ finished)
IsAnyWaited (Ok None) (Ok None) = Unit {0}
IsAnyWaited (Err why) (Err e) = any_error e.cause ≡ Some why
IsAnyWaited answer result = ⊥

-- a wait of the desk for any, of which this is read
abbrev pub WaitAnyGives : {H : Type 0} {g : _} → List Operation → (node : H → NodeView) → (turned : H → ℕ → H → Type 0) → (refused : H → TurnError → H → Type 0) → (turns : ℕ) → Result (Option Done) CallError → (old new : Desk H g) → Type 0
WaitAnyGives ops node turned refused turns result old new =
    (answer : Result (Option (Request × Finished)) (WaitError (Unit {0}))) × WaitsAny ops node turned refused turns answer old.host new.host old.requests.keys new.requests.keys × IsAnyWaited answer result

-- TESTS

-- why a turn was refused
abbrev pub turn_error : Cause → Option TurnError
turn_error (NoMemory request) = Some U.OutOfMemory
turn_error (GaveUp request rank) = Some (U.GaveUp rank)
turn_error cause = None

-- turns were made, or why not
abbrev pub IsTurned : Result (Unit {0}) TurnError → Result (Unit {0}) CallError → Type 0
IsTurned (Ok u) (Ok v) = Unit {0}
IsTurned (Err why) (Err e) = turn_error e.cause ≡ Some why
IsTurned turns result = ⊥

-- so many turns of the desk, and nothing else
abbrev pub TurnsGive : {H : Type 0} {g : _} → (turned : H → ℕ → H → Type 0) → (refused : H → TurnError → H → Type 0) → (turns : ℕ) → Result (Unit {0}) CallError → (old new : Desk H g) → Type 0
TurnsGive turned refused turns result old new =
    (made : Result (Unit {0}) TurnError) × MakesTurns turned refused turns made old.host new.host × (new.requests.keys ≡ old.requests.keys) × IsTurned made result

-- what a test says, of the turn before it and of the desk's test. It says that the call isn't done only where the turn was made
abbrev pub IsTested : {T P : Type 0} → (numbers : List T → List ℤ) → (request_of : P → Request) → Result (Unit {0}) TurnError → Result (Tested Finished Request) (AllocFailed Request) → Result (Tested (Vec T Global) P) CallError → Type 0
IsTested numbers request_of turn (Ok (T.Done finished)) (Ok (T.Done list)) = numbers_given finished.outcome ≡ Ok (numbers list.items)
IsTested numbers request_of turn (Ok (T.Done finished)) (Err e) = IsUnread (numbers_given finished.outcome) e.cause
IsTested numbers request_of (Ok u) (Ok (T.NotYet request)) (Ok (T.NotYet pending)) = request_of pending ≡ request
IsTested numbers request_of (Err why) (Ok (T.NotYet request)) (Err e) = turn_error e.cause ≡ Some why
IsTested numbers request_of turn (Ok (T.LetGo request)) (Err e) = e.cause ≡ LetGo (Some request)
IsTested numbers request_of turn (Err failed) (Err e) = e.cause ≡ NoMemory (Some failed.value)
IsTested numbers request_of turn answer result = ⊥

-- one turn, and then a test of the desk, of which this is said
abbrev pub TestGives : {H : Type 0} {g : _} {A : Type 0} → (node : H → NodeView) → (turned : H → ℕ → H → Type 0) → (refused : H → TurnError → H → Type 0) → Request → (is_said : Result (Unit {0}) TurnError → Result (Tested Finished Request) (AllocFailed Request) → Result A CallError → Type 0) → Result A CallError → (old new : Desk H g) → Type 0
TestGives {H} {g} node turned refused request is_said result old new =
    (between : Desk H g) × (turn : Result (Unit {0}) TurnError) × (answer : Result (Tested Finished Request) (AllocFailed Request)) × TurnsOnce turned refused turn old between
    × turned between.host 0 new.host × Tests request answer (node new.host) between.requests.keys new.requests.keys × is_said turn answer result

-- whether a call is done, of the turn before and of what the desk says. It says that it isn't done only where the turn was made
abbrev pub IsStatus : Result (Unit {0}) TurnError → Result Bool NoMemoryView → Result Bool CallError → Type 0
IsStatus turn (Ok true) (Ok is_done) = is_done ≡ true
IsStatus (Ok u) (Ok false) (Ok is_done) = is_done ≡ false
IsStatus (Err why) (Ok false) (Err e) = turn_error e.cause ≡ Some why
IsStatus turn (Err none) (Err e) = e.cause ≡ NoMemory None
IsStatus turn answer result = ⊥

-- one turn, and then the desk's word whether the call is done. It stays open
abbrev pub StatusGives : {H : Type 0} {g : _} → (node : H → NodeView) → (turned : H → ℕ → H → Type 0) → (refused : H → TurnError → H → Type 0) → Request → Result Bool CallError → (old new : Desk H g) → Type 0
StatusGives {H} {g} node turned refused request result old new =
    (between : Desk H g) × (turn : Result (Unit {0}) TurnError) × (answer : Result Bool NoMemoryView) × TurnsOnce turned refused turn old between
    × turned between.host 0 new.host × IfOk answer (λ is_done. HasStatus is_done request (node new.host))
    × IfErr answer (λ none. IsAtHand (node new.host) request.name request.call) × (new.requests.keys ≡ between.requests.keys) × IsStatus turn answer result

-- what a test of all open calls says
abbrev pub IsAny : Result (Unit {0}) TurnError → Result (Option (Request × Finished)) NoMemoryView → Result (Option Done) CallError → Type 0
IsAny turn (Ok (Some (request, finished))) (Ok (Some done)) = (done.request ≡ request) × (done.finished ≡ finished)
IsAny (Ok u) (Ok None) (Ok None) = Unit {0}
IsAny (Err why) (Ok None) (Err e) = turn_error e.cause ≡ Some why
IsAny turn (Err none) (Err e) = e.cause ≡ OutOfMemory
IsAny turn answer result = ⊥

-- one turn, and then a test of all open calls
abbrev pub AnyGives : {H : Type 0} {g : _} → (ops_of : H → List Operation) → (node : H → NodeView) → (turned : H → ℕ → H → Type 0) → (refused : H → TurnError → H → Type 0) → Result (Option Done) CallError → (old new : Desk H g) → Type 0
AnyGives {H} {g} ops_of node turned refused result old new =
    (between : Desk H g) × (turn : Result (Unit {0}) TurnError) × (answer : Result (Option (Request × Finished)) NoMemoryView) × TurnsOnce turned refused turn old between
    × turned between.host 0 new.host × TestsAny (ops_of between.host) answer (node between.host) (node new.host) between.requests.keys new.requests.keys × IsAny turn answer result

-- what a test of all open calls says of those that are done. It says that there is none only where the turn was made
abbrev pub IsSome : Result (Unit {0}) TurnError → Result (Vec (Request × Finished) Global) NoMemoryView → Result (Vec (Request × Finished) Global) CallError → Type 0
IsSome (Ok u) (Ok done) (Ok list) = list ≡ done
IsSome (Err why) (Ok done) (Ok list) = (list ≡ done) × (done.items ≢ [])
IsSome (Err why) (Ok done) (Err e) = (done.items ≡ []) × (turn_error e.cause ≡ Some why)
IsSome turn (Err none) (Err e) = e.cause ≡ OutOfMemory
IsSome turn answer result = ⊥

-- one turn, and then a test of all open calls for those that are done
abbrev pub SomeGives : {H : Type 0} {g : _} → (ops_of : H → List Operation) → (node : H → NodeView) → (turned : H → ℕ → H → Type 0) → (refused : H → TurnError → H → Type 0) → Result (Vec (Request × Finished) Global) CallError → (old new : Desk H g) → Type 0
SomeGives {H} {g} ops_of node turned refused result old new =
    (between : Desk H g) × (turn : Result (Unit {0}) TurnError) × (answer : Result (Vec (Request × Finished) Global) NoMemoryView) × TurnsOnce turned refused turn old between
    × turned between.host 0 new.host × TestsSome (ops_of between.host) answer (node between.host) (node new.host) between.requests.keys new.requests.keys × IsSome turn answer result
