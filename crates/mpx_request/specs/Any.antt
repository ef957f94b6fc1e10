-- Waits for any of the open requests, and for some (MPI 4.1, section 3.7.5).
use Rattle.std.specs.Prelude.{◌≡◌, ℕ, zero, suc, ◌<◌, ◌≤◌, ◌⊎◌, ◌≢◌, List, [], ◌∷◌, ◌++◌, length, map, slice_get, Vec, Result, Ok, Err, Option, Some, None}
use Rattle.std.specs.declared.alloc.Global.{Global}
use Rattle.join_core.specs.declared.memory.OutOfMemory.{OutOfMemory}
use Rattle.mpx_num.specs.declared.own.Operation.{Operation}
use Rattle.mpx_node.specs.declared.finished.Finished.{Finished}
use Rattle.mpx_node.specs.Nodes.{NodeView}
use Rattle.mpx_request.specs.declared.request.Request.{Request}
use Rattle.mpx_request.specs.declared.answers.TurnError.{TurnError}
use Rattle.mpx_request.specs.declared.answers.TurnError.TheVariants as T
use Rattle.mpx_request.specs.declared.answers.WaitError.{WaitError}
use Rattle.mpx_request.specs.declared.answers.WaitError.TheVariants.{StillWaiting, OutOfMemory as NoMemory, GaveUp, LetGo}
use Rattle.mpx_request.specs.Harvested.{Harvested, WasPending}
use Rattle.mpx_request.specs.Later.{IsPending}
use Rattle.mpx_request.specs.Requests.{OneIsAtHand, TestsAny, WerePending, close_all, result_of}
use Rattle.mpx_request.specs.Turns.{HostMoves}

-- a look at the open requests: no turn, and harvests alone
abbrev pub LooksAt : {H : Type 0} → List Operation → (node : H → NodeView) → (turned : H → ℕ → H → Type 0) → H → H → Type 0
LooksAt ops node turned a b = HostMoves node turned a 0 b × Harvested ops (node a) (node b)

-- a look in vain: each of them wasn't done, at some moment on its way
abbrev pub LooksInVain : {H : Type 0} → List Operation → (node : H → NodeView) → (turned : H → ℕ → H → Type 0) → (requests : List Request) → H → H → Type 0
LooksInVain ops node turned requests a b = LooksAt ops node turned a b × WerePending ops (node a) (node b) (length requests) requests

-- so many turns, and just before each of them a look in vain
abbrev pub VainLooks : {H : Type 0} → List Operation → (node : H → NodeView) → (turned : H → ℕ → H → Type 0) → (requests : List Request) → H → ℕ → H → Type 0
VainLooks {H} ops node turned requests a zero b = HostMoves node turned a 0 b
VainLooks {H} ops node turned requests a (suc n) b = (before : H) × (after : H) × VainLooks ops node turned requests a n before × LooksInVain ops node turned requests before after × HostMoves node turned after 1 b

-- so many turns in all, each after such a look
abbrev pub AwaitsAny : {H : Type 0} → List Operation → (node : H → NodeView) → (turned : H → ℕ → H → Type 0) → (requests : List Request) → H → ℕ → H → Type 0
AwaitsAny ops node turned requests a n b = turned a n b × VainLooks ops node turned requests a n b

-- after at most so many turns one look more, which comes to this
abbrev pub LooksLast : {H : Type 0} → List Operation → (node : H → NodeView) → (turned : H → ℕ → H → Type 0) → (requests : List Request) → (turns : ℕ) → (comes_to : (old new : NodeView) → Type 0) → H → H → Type 0
LooksLast {H} ops node turned requests turns comes_to a b = (n : ℕ) × (look : H) × (n ≤ turns) × AwaitsAny ops node turned requests a n look × LooksAt ops node turned look b × comes_to (node look) (node b)

-- given up after at most so many turns: memory was wanting at a look at what is at hand, or one turn more was refused, and why
abbrev pub GivesUpAny : {H : Type 0} → List Operation → (node : H → NodeView) → (turned : H → ℕ → H → Type 0) → (refused : H → TurnError → H → Type 0) → (requests : List Request) → (why : TurnError) → (turns : ℕ) → H → H → Type 0
GivesUpAny {H} ops node turned refused requests why turns a b =
    ((why ≡ T.OutOfMemory) × LooksLast ops node turned requests turns (λ old new. OneIsAtHand new requests) a b)
    ⊎ ((n : ℕ) × (before : H) × (look : H) × (n < turns) × AwaitsAny ops node turned requests a n before × LooksInVain ops node turned requests before look × refused look why b)

-- at this place stands the first of them that is done, and this is its result
abbrev pub FindsAny : List Operation → (old new : NodeView) → (requests : List Request) → (place : ℕ) → Finished → Type 0
FindsAny ops old new requests place finished = WerePending ops old new place requests × ((request : Request) × (slice_get requests place ≡ Some request) × (result_of new request ≡ Some finished))

-- a wait for any of the open requests: there is none; or it ends by a test of them that finds one done, after at most so many turns; or after
-- just so many and a last look in vain; or it is given up. Before each turn all were looked at in vain. No open request's result was let go
abbrev pub WaitsAny : {H : Type 0} → List Operation → (node : H → NodeView) → (turned : H → ℕ → H → Type 0) → (refused : H → TurnError → H → Type 0) → (turns : ℕ) → Result (Option (Request × Finished)) (WaitError (Unit {0})) → (old new : H) → (before after : List Request) → Type 0
WaitsAny ops node turned refused turns (Ok None) old new before after = (before ≡ []) × (new ≡ old) × (after ≡ before)
WaitsAny ops node turned refused turns (Ok (Some done)) old new before after =
    LooksLast ops node turned before turns (λ looked now. TestsAny ops (Ok (Some done)) looked now before after) old new
WaitsAny {H} ops node turned refused turns (Err (StillWaiting u)) old new before after =
    (before ≢ []) × ((look : H) × AwaitsAny ops node turned before old turns look × LooksInVain ops node turned before look new) × (after ≡ before)
WaitsAny ops node turned refused turns (Err (NoMemory u)) old new before after = GivesUpAny ops node turned refused before T.OutOfMemory turns old new × (after ≡ before)
WaitsAny ops node turned refused turns (Err (GaveUp u rank)) old new before after = GivesUpAny ops node turned refused before (T.GaveUp rank) turns old new × (after ≡ before)
WaitsAny ops node turned refused turns (Err (LetGo u)) old new before after = ⊥

-- SOME

-- of these requests just those that are done, each with its stored result, in their order; each other one wasn't, at some moment
abbrev pub PicksDone : List Operation → (old new : NodeView) → List Request → (done : List (Request × Finished)) → Type 0
PicksDone ops old new [] done = done ≡ []
PicksDone ops old new (request ∷ requests) done =
    ((finished : Finished) × (rest : List (Request × Finished)) × (result_of new request ≡ Some finished) × (done ≡ (request, finished) ∷ rest) × PicksDone ops old new requests rest)
    ⊎ (WasPending ops old new request.name request.call × PicksDone ops old new requests done)

-- the request is added with its stored result, where it is done
abbrev pub AddsIfDone : NodeView → Request → (old new : List (Request × Finished)) → Type 0
AddsIfDone node request old new =
    ((finished : Finished) × (result_of node request ≡ Some finished) × (new ≡ old ++ (request, finished) ∷ []))
    ⊎ (IsPending node request.name request.call × (new ≡ old))

-- a test of all open requests: those that are done are closed
abbrev pub ClosesDone : List Operation → (done : List (Request × Finished)) → (old new : NodeView) → (before after : List Request) → Type 0
ClosesDone ops done old new before after = PicksDone ops old new before done × (after ≡ close_all before (map (λ (d : Request × Finished). d.0) done))

abbrev pub TestsSome : List Operation → Result (Vec (Request × Finished) Global) OutOfMemory → (old new : NodeView) → (before after : List Request) → Type 0
TestsSome ops (Ok done) old new before after = ClosesDone ops done.items old new before after
TestsSome ops (Err e) old new before after = OneIsAtHand new before × (after ≡ before)

-- a wait for some of them: there is none; or it ends by such a test that finds at least one; all else is as of a wait for any
abbrev pub WaitsSome : {H : Type 0} → List Operation → (node : H → NodeView) → (turned : H → ℕ → H → Type 0) → (refused : H → TurnError → H → Type 0) → (turns : ℕ) → Result (Vec (Request × Finished) Global) (WaitError (Unit {0})) → (old new : H) → (before after : List Request) → Type 0
WaitsSome ops node turned refused turns (Ok done) old new before after =
    ((before ≡ []) × (done.items ≡ []) × (new ≡ old) × (after ≡ before))
    ⊎ ((done.items ≢ []) × LooksLast ops node turned before turns (λ looked now. ClosesDone ops done.items looked now before after) old new)
WaitsSome ops node turned refused turns (Err e) old new before after = WaitsAny ops node turned refused turns (Err e) old new before after
