-- Requests, and the open ones in order of posting.
use Rattle.std.specs.Prelude.{◌≡◌, ℕ, ◌<◌, ◌≤◌, ◌==◌, ◌&&◌, ◌⊎◌, Bool, true, false, IsTrue, is_some, List, Vec, Result, Ok, Err, Option, Some, None, map, remove, slice_get, length}
use Rattle.std.specs.declared.alloc.Global.{Global}
use Rattle.std.specs.declared.alloc.AllocFailed.{AllocFailed}
use Rattle.std.specs.Set.{remove_key}
use Rattle.std.specs.List.{fold, list_any}
use Rattle.join_core.specs.declared.memory.OutOfMemory.{OutOfMemory}
use Rattle.mpx_name.specs.Name.{same_name}
use Rattle.mpx_num.specs.declared.own.Operation.{Operation}
use Rattle.mpx_node.specs.declared.finished.Finished.{Finished}
use Rattle.mpx_node.specs.Nodes.{NodeView}
use Rattle.mpx_request.specs.declared.request.Request.{Request}
use Rattle.mpx_request.specs.declared.answers.Tested.{Tested}
use Rattle.mpx_request.specs.declared.answers.Tested.TheVariants.{Done, NotYet, LetGo as TestedLetGo}
use Rattle.mpx_request.specs.declared.answers.WaitError.{WaitError}
use Rattle.mpx_request.specs.declared.answers.WaitError.TheVariants.{StillWaiting, OutOfMemory as NoMemory, GaveUp, LetGo}
use Rattle.mpx_request.specs.declared.answers.TurnError.{TurnError}
use Rattle.mpx_request.specs.declared.answers.TurnError.TheVariants as T
use Rattle.mpx_request.specs.Later.{result_at, is_let_go, IsAtHand, IsPending}
use Rattle.mpx_request.specs.Harvested.{WasPending}
use Rattle.mpx_request.specs.Turns.{Awaits, GivesUp}

abbrev pub same_request : Request → Request → Bool
same_request a b = same_name a.name b.name && (a.call == b.call)

-- the open requests without this one
abbrev pub close : List Request → Request → List Request
close rs request = remove_key (same_request request) rs

abbrev pub close_all : List Request → List Request → List Request
close_all rs requests = fold close rs requests

-- the stored result of its call
abbrev pub result_of : NodeView → Request → Option Finished
result_of node request = result_at node request.name request.call

-- whether the result of its call was let go
abbrev pub has_let_go : NodeView → Request → Bool
has_let_go node request = is_let_go node request.name request.call

-- of none of them the result was let go
abbrev pub AreKept : NodeView → List Request → Type 0
AreKept node rs = (i : ℕ) (request : Request) → slice_get rs i ≡ Some request → has_let_go node request ≡ false

-- TESTS

-- a test is done just where the call's result is stored, and then closes it; it says so where that was let go; memory can be wanting only
-- for what is at hand
abbrev pub Tests : Request → Result (Tested Finished Request) (AllocFailed Request) → NodeView → (before after : List Request) → Type 0
Tests request (Ok (Done finished)) node before after = (result_of node request ≡ Some finished) × (after ≡ close before request)
Tests request (Ok (NotYet back)) node before after = (back ≡ request) × IsPending node request.name request.call × (after ≡ before)
Tests request (Ok (TestedLetGo back)) node before after = (back ≡ request) × (has_let_go node request ≡ true) × (after ≡ before)
Tests request (Err refused) node before after = (refused.value ≡ request) × IsAtHand node request.name request.call × (after ≡ before)

-- a call's status is done just where its result is stored, or was let go
abbrev pub HasStatus : (done : Bool) → Request → NodeView → Type 0
HasStatus true request node = IsTrue (is_some (result_of node request)) ⊎ (has_let_go node request ≡ true)
HasStatus false request node = IsPending node request.name request.call

-- one of them isn't done
abbrev pub OneIsPending : NodeView → List Request → Type 0
OneIsPending node requests = (i : ℕ) × (request : Request) × (slice_get requests i ≡ Some request) × IsPending node request.name request.call

-- one of them is done, or may be
abbrev pub OneIsAtHand : NodeView → List Request → Type 0
OneIsAtHand node requests = (i : ℕ) × (request : Request) × (slice_get requests i ≡ Some request) × IsAtHand node request.name request.call

-- these are the stored results of all of them, in their order
abbrev pub AreResults : NodeView → List Request → List Finished → Type 0
AreResults node requests all = map (result_of node) requests ≡ map Some all

-- a test of many closes all or none. Where the result of one of them was let go it says so, whatever the others are
abbrev pub TestsAll : List Request → Result (Tested (Vec Finished Global) (Vec Request Global)) (AllocFailed (Vec Request Global)) → NodeView → (before after : List Request) → Type 0
TestsAll requests (Ok (Done all)) node before after = AreResults node requests all.items × (after ≡ close_all before requests)
TestsAll requests (Ok (NotYet back)) node before after = (back.items ≡ requests) × AreKept node requests × OneIsPending node requests × (after ≡ before)
TestsAll requests (Ok (TestedLetGo back)) node before after = (back.items ≡ requests) × (list_any (has_let_go node) requests ≡ true) × (after ≡ before)
TestsAll requests (Err refused) node before after = (refused.value.items ≡ requests) × AreKept node requests × OneIsAtHand node requests × (after ≡ before)

-- each of the first so many was not done at some moment
abbrev pub WerePending : List Operation → (old new : NodeView) → (number : ℕ) → List Request → Type 0
WerePending ops old new number requests = (i : ℕ) (request : Request) → i < number → slice_get requests i ≡ Some request → WasPending ops old new request.name request.call

-- the first open request that is done is closed, or none is done
abbrev pub TestsAny : List Operation → Result (Option (Request × Finished)) OutOfMemory → (old new : NodeView) → (before after : List Request) → Type 0
TestsAny ops (Ok (Some (request, finished))) old new before after =
    (place : ℕ) × (slice_get before place ≡ Some request) × WerePending ops old new place before × (result_of new request ≡ Some finished) × (after ≡ remove before place)
TestsAny ops (Ok None) old new before after = WerePending ops old new (length before) before × (after ≡ before)
TestsAny ops (Err e) old new before after = OneIsAtHand new before × (after ≡ before)

-- WAITS

-- turns while the call, or one of the calls, was pending

abbrev pub AwaitsOne : {H : Type 0} → (node : H → NodeView) → (turned : H → ℕ → H → Type 0) → Request → H → ℕ → H → Type 0
AwaitsOne node turned request = Awaits node turned (λ seen. IsPending seen request.name request.call)

abbrev pub AwaitsAll : {H : Type 0} → (node : H → NodeView) → (turned : H → ℕ → H → Type 0) → List Request → H → ℕ → H → Type 0
AwaitsAll node turned requests = Awaits node turned (λ seen. OneIsPending seen requests)

-- such a wait is given up, and why

abbrev pub GivesUpOne : {H : Type 0} → (node : H → NodeView) → (turned : H → ℕ → H → Type 0) → (refused : H → TurnError → H → Type 0) → Request → (why : TurnError) → (turns : ℕ) → H → H → Type 0
GivesUpOne node turned refused request = GivesUp node turned refused (λ seen. IsPending seen request.name request.call) (λ seen. IsAtHand seen request.name request.call)

abbrev pub GivesUpAll : {H : Type 0} → (node : H → NodeView) → (turned : H → ℕ → H → Type 0) → (refused : H → TurnError → H → Type 0) → List Request → (why : TurnError) → (turns : ℕ) → H → H → Type 0
GivesUpAll node turned refused requests = GivesUp node turned refused (λ seen. OneIsPending seen requests) (λ seen. OneIsAtHand seen requests)

-- a wait ends with the result after at most so many turns, or without it after just so many, or is given up for want of memory or by the
-- host. Of a result that was let go it says so, and changes nothing
abbrev pub Waits : {H : Type 0} → (node : H → NodeView) → (turned : H → ℕ → H → Type 0) → (refused : H → TurnError → H → Type 0) → Request → (turns : ℕ) → Result Finished (WaitError Request) → (old new : H) → (before after : List Request) → Type 0
Waits node turned refused request turns (Ok finished) old new before after =
    (result_of (node new) request ≡ Some finished) × ((n : ℕ) × (n ≤ turns) × AwaitsOne node turned request old n new) × (after ≡ close before request)
Waits node turned refused request turns (Err (StillWaiting back)) old new before after =
    (back ≡ request) × IsPending (node new) request.name request.call × AwaitsOne node turned request old turns new × (after ≡ before)
Waits node turned refused request turns (Err (NoMemory back)) old new before after = (back ≡ request) × GivesUpOne node turned refused request T.OutOfMemory turns old new × (after ≡ before)
Waits node turned refused request turns (Err (GaveUp back rank)) old new before after = (back ≡ request) × GivesUpOne node turned refused request (T.GaveUp rank) turns old new × (after ≡ before)
Waits node turned refused request turns (Err (LetGo back)) old new before after = (back ≡ request) × (has_let_go (node old) request ≡ true) × (new ≡ old) × (after ≡ before)

-- so does a wait for many. Where the result of one of them was let go it says so, whatever the others are
abbrev pub WaitsAll : {H : Type 0} → (node : H → NodeView) → (turned : H → ℕ → H → Type 0) → (refused : H → TurnError → H → Type 0) → List Request → (turns : ℕ) → Result (Vec Finished Global) (WaitError (Vec Request Global)) → (old new : H) → (before after : List Request) → Type 0
WaitsAll node turned refused requests turns (Ok all) old new before after =
    AreResults (node new) requests all.items × ((n : ℕ) × (n ≤ turns) × AwaitsAll node turned requests old n new) × (after ≡ close_all before requests)
WaitsAll node turned refused requests turns (Err (StillWaiting back)) old new before after =
    (back.items ≡ requests) × AreKept (node new) requests × OneIsPending (node new) requests × AwaitsAll node turned requests old turns new × (after ≡ before)
WaitsAll node turned refused requests turns (Err (NoMemory back)) old new before after = (back.items ≡ requests) × AreKept (node new) requests × GivesUpAll node turned refused requests T.OutOfMemory turns old new × (after ≡ before)
WaitsAll node turned refused requests turns (Err (GaveUp back rank)) old new before after = (back.items ≡ requests) × AreKept (node new) requests × GivesUpAll node turned refused requests (T.GaveUp rank) turns old new × (after ≡ before)
WaitsAll node turned refused requests turns (Err (LetGo back)) old new before after = (back.items ≡ requests) × (list_any (has_let_go (node old)) requests ≡ true) × (new ≡ old) × (after ≡ before)
