-- When all ports say, once their threads have ended, that no rank can go on.
use Rattle.std.specs.Prelude.{◌≡◌, ◌⊎◌, ℕ, ◌<◌, ◌≤◌, false, is_some, List, [], ◌∷◌, map, Option, Some, None, slice_get}
use Rattle.std.specs.Option.{option_map_or}
use Rattle.mpx_name.specs.Name.{Name}
use Rattle.mpx_birth.specs.Births.{BirthView}
use Rattle.mpx_board.specs.Boards.{Look, told}
use Rattle.mpx_node.specs.Nodes.{NodeView, front_on}
use Rattle.mpx_bus.specs.Ports.{PortView, node_in}
use Rattle.mpx_statement.specs.declared.statement.Statement.TheVariants.{Wait}
use Rattle.mpx_statement.specs.Lookups.{named}
use Rattle.mpx_meaning.specs.Ends.{Asked, EndView, WaitsAtView, end_view}
use Rattle.mpx_meaning.specs.Evaluation.{State}
use Rattle.mpx_meaning.specs.Ranks.{Await, Do, Local, Todo}
use Rattle.mpx_threads.specs.declared.worker.Worked.{Worked}

-- WHAT A RANK WAITS FOR

abbrev pub IsOneOf : {A : Type 0} → A → List A → Type 0
IsOneOf x xs = (i : ℕ) × (slice_get xs i ≡ Some x)

-- a request of one of these words is open for this call
abbrev pub IsRequested : (requests : List ℕ → Option (Name × ℕ)) → (words : List (List ℕ)) → Name × ℕ → Type 0
IsRequested requests words call = (place : ℕ) × ((word : List ℕ) × ((slice_get words place ≡ Some word) × (requests word ≡ Some call)))

-- the rank waits for the outcome of this call, or its next statement waits for a request that is open for it
pub data WaitsFor (s : Local) (call : Name × ℕ) : Type 0 where
  awaits : (target : Option (List ℕ)) (rest : List Todo) → s.todo ≡ Await call.0 call.1 target ∷ rest → WaitsFor s call
  stands_at : (words : List (List ℕ)) (rest : List Todo) → s.todo ≡ Do (Wait words) ∷ rest → IsRequested (named s.requests) words call → WaitsFor s call

-- WHAT A NODE LACKS

-- the board lacks the post of one of these members to the call
abbrev pub OneLacks : Look → Name → (call : ℕ) → (members : List ℕ) → Type 0
OneLacks board name call members = (place : ℕ) × ((member : ℕ) × ((slice_get members place ≡ Some member) × (told ((board.contexts name).posts call member) ≡ None)))

-- the node hasn't harvested the call, and its board tells who the context's members are, and lacks the post of one of them
pub record Lacks (node : NodeView) (call : Name × ℕ) : Type 0 where
  pub later : front_on node call.0 ≤ call.1
  pub birth : BirthView
  pub born : told (node.board.contexts call.0).birth ≡ Some birth
  pub one : OneLacks node.board call.0 call.1 birth.members

-- AT REST

-- the ports of the first so many processes have one board
abbrev pub HaveOneBoard : (ranks : ℕ) → List PortView → Type 0
HaveOneBoard ranks ports = (p q : ℕ) (a b : PortView) → p < ranks → q < ranks → slice_get ports p ≡ Some a → slice_get ports q ≡ Some b → (node_in b).board ≡ (node_in a).board

-- a rank has nothing left, or its port lacks a call that it waits for
abbrev pub HasEndedOrLacks : Local → PortView → Type 0
HasEndedOrLacks s port = (s.todo ≡ []) ⊎ ((call : Name × ℕ) × (WaitsFor s call × Lacks (node_in port) call))

-- all ranks have ended; or the boards of all ranks are one, and each rank has nothing left, or its port lacks a call that it waits for
abbrev pub AreAtRest : (ranks : ℕ) → State → List PortView → Type 0
AreAtRest ranks s ports = ((p : ℕ) → p < ranks → (s p).todo ≡ [])
    ⊎ (HaveOneBoard ranks ports × ((p : ℕ) (port : PortView) → p < ranks → slice_get ports p ≡ Some port → HasEndedOrLacks (s p) port))

-- WHAT IS KEPT OF THAT

-- these are the calls that the rank waits for
pub record AreWaitedFor (s : Local) (calls : List (Name × ℕ)) : Type 0 where
  pub only : (i : ℕ) (call : Name × ℕ) → slice_get calls i ≡ Some call → WaitsFor s call
  pub all : (call : Name × ℕ) → WaitsFor s call → IsOneOf call calls

abbrev pub LacksOne : NodeView → List (Name × ℕ) → Type 0
LacksOne node calls = (i : ℕ) × ((call : Name × ℕ) × ((slice_get calls i ≡ Some call) × Lacks node call))

-- the calls that a rank waits for, as it ends
abbrev pub calls_with : Option WaitsAtView → List (Name × ℕ)
calls_with waits = option_map_or (λ (w : WaitsAtView). map (λ (a : Asked). a.1) w.calls) waits []

abbrev pub calls_in : EndView → List (Name × ℕ)
calls_in end = calls_with end.waits

-- the same of processes that have worked, of which these are kept
abbrev pub EndedOrLacks : Worked → Type 0
EndedOrLacks w = (is_some w.end.waits ≡ false) ⊎ LacksOne (node_in w.port) (calls_in (end_view w.end))

abbrev pub HaveEnded : (ranks : ℕ) → List Worked → Type 0
HaveEnded ranks ws = (p : ℕ) (w : Worked) → p < ranks → slice_get ws p ≡ Some w → is_some w.end.waits ≡ false

abbrev pub HaveBoardInCommon : (ranks : ℕ) → List Worked → Type 0
HaveBoardInCommon ranks ws = (p q : ℕ) (w v : Worked) → p < ranks → q < ranks → slice_get ws p ≡ Some w → slice_get ws q ≡ Some v → (node_in v.port).board ≡ (node_in w.port).board

abbrev pub HaveEndedOrLack : (ranks : ℕ) → List Worked → Type 0
HaveEndedOrLack ranks ws = (p : ℕ) (w : Worked) → p < ranks → slice_get ws p ≡ Some w → EndedOrLacks w

abbrev pub HaveComeToRest : (ranks : ℕ) → List Worked → Type 0
HaveComeToRest ranks ws = HaveEnded ranks ws ⊎ (HaveBoardInCommon ranks ws × HaveEndedOrLack ranks ws)
