-- How far a rank has come, and what its port holds of that.
use Rattle.std.specs.Prelude.{◌≡◌, ℕ, ◌<◌, ◌≤◌, ◌+◌, Bool, true, is_some, Option, None, List, [], ◌∷◌, length, Some, slice_get}
use Rattle.std.specs.List.{list_all}
use Rattle.atomic_table.specs.Seated.{TableId}
use Rattle.mpx_name.specs.Name.{Name}
use Rattle.mpx_value.specs.declared.outcomes.Outcome.{Outcome}
use Rattle.mpx_node.specs.Nodes.{NodeView, result_on}
use Rattle.mpx_bus.specs.declared.act.Setup.{Setup}
use Rattle.mpx_bus.specs.Ports.{PortView}
use Rattle.mpx_shared.specs.LawfulPorts.{IsLawful, made_in}
use Rattle.mpx_script.specs.ScriptView.{ScriptView}
use Rattle.mpx_statement.specs.declared.statement.Statement.{Statement}
use Rattle.mpx_meaning.specs.Ends.{EndView, WaitsAtView, end_of, end_view}
use Rattle.mpx_meaning.specs.declared.line.Line.{Line}
use Rattle.mpx_meaning.specs.declared.line.Line.TheVariants.{Told}
use Rattle.mpx_meaning.specs.Ranks.{Local}
use Rattle.mpx_meaning.specs.Evaluation.{start_state}
use Rattle.mpx_meaning.specs.Going.{Goes}
use Rattle.mpx_rank.specs.Carriers.{outcomes_of}
use Rattle.mpx_threads.specs.declared.worker.Worked.{Worked}
use Rattle.mpx_threads.specs.declared.worker.ReadyProcess.{ReadyProcess}
use Rattle.mpx_threads.specs.declared.gate.BusStep.{BusStep}
use Rattle.mpx_threads.specs.declared.gossip.GossipEnd.{GossipEnd}
use Rattle.mpx_threads.specs.declared.gossip.GossipEnd.TheVariants.{GaveUp}
use Rattle.mpx_threads.specs.Gates.{GivesUpWithin}
use Rattle.mpx_threads.specs.Plans.{Plans, planned_results}
use Rattle.mpx_threads.specs.ThreadRuns.{IsDone}
use Rattle.mpx_threads.specs.ToldCalls.{first_posts}

-- by what the plan's posts give it the rank has come there, and ends so; its posts are the first so many of the plan; and each line
-- that tells an outcome tells what the plan's posts give
pub record HasCome (script : ScriptView) (setup : Setup) (me : ℕ) (count : ℕ) (end : EndView) : Type 0 where
  pub to : Local
  pub goes : Goes setup.operations (planned_results setup me) (start_state script.statements script.ranks me) to
  pub end_is : end ≡ end_of to
  pub made_is : to.made ≡ first_posts setup me count
  pub tells : (i : ℕ) (name : Name) (call : ℕ) (outcome : Outcome) → slice_get to.lines i ≡ Some (Told name call outcome) → outcomes_of (planned_results setup me) name call ≡ Some outcome

-- the rank has come so far, and ends so; and its port holds what its lines tell
pub record HasWorked (script : ScriptView) (relays : ℕ) (setup : Setup) (me : ℕ) (port : PortView) (end : EndView) : Type 0 where
  pub to : Local
  pub done : (plan : Plans script relays setup) → IsDone setup.operations script plan.end me port to
  pub end_is : end ≡ end_of to

-- the port of a process that has posted nothing yet, by the plan of the script's evaluation
pub record IsReadyProcess (script : ScriptView) (relays : ℕ) (setup : Setup) (table : TableId) (j : ReadyProcess) : Type 0 where
  pub plan : Plans script relays setup
  pub lawful : IsLawful table setup j.me j.port
  pub none : length (made_in j.port) ≡ 0
  pub within : j.me < script.ranks + relays

-- a job for each port, by its number
pub record AreJobs (ports : List PortView) (jobs : List ReadyProcess) : Type 0 where
  pub count : length jobs ≡ length ports
  pub each : (i : ℕ) (j : ReadyProcess) → slice_get jobs i ≡ Some j → (j.me ≡ i) × (slice_get ports i ≡ Some j.port)

-- a process for each number, in order, each of them ready
pub record AreReady (script : ScriptView) (relays : ℕ) (setup : Setup) (table : TableId) (jobs : List ReadyProcess) : Type 0 where
  pub plan : Plans script relays setup
  pub count : length jobs ≡ script.ranks + relays
  pub each : (i : ℕ) (j : ReadyProcess) → slice_get jobs i ≡ Some j → (j.me ≡ i) × (IsReadyProcess script relays setup table j × (j.port.setup ≡ setup))

-- a rank has worked so; a relay has posted nothing
pub record IsWorked (script : ScriptView) (relays : ℕ) (setup : Setup) (table : TableId) (me : ℕ) (w : Worked) : Type 0 where
  pub lawful : IsLawful table setup me w.port
  pub rank : me < script.ranks → HasWorked script relays setup me w.port (end_view w.end)
  pub relay : script.ranks ≤ me → made_in w.port ≡ []

-- where a process's gossip ended for the gate, that gives up at one of its first so many steps of some kind
abbrev pub GossipEndsSo : (ℕ → BusStep → ℕ → Type 0) → (process turns : ℕ) → GossipEnd → Type 0
GossipEndsSo gives_up process turns end = end ≡ GaveUp → GivesUpWithin gives_up process turns

-- a ledger all of whose shares are one's own, which has seen nothing yet
abbrev pub IsNewLedger : (all parts before amount : ℕ) → Type 0
IsNewLedger all parts before amount = (all ≡ parts) × ((0 < parts) × ((before ≡ 0) × (amount ≡ 0)))

-- all processes have worked so
pub record AreWorked (script : ScriptView) (relays : ℕ) (setup : Setup) (table : TableId) (ws : List Worked) : Type 0 where
  pub plan : Plans script relays setup
  pub count : length ws ≡ script.ranks + relays
  pub each : (i : ℕ) (w : Worked) → slice_get ws i ≡ Some w → IsWorked script relays setup table i w

-- the node holds a result of the call of a line that tells an outcome
abbrev pub is_held : NodeView → Line → Bool
is_held node (Told name call outcome) = is_some (result_on node name call)
is_held node line = true

abbrev pub AreHeld : NodeView → List Line → Type 0
AreHeld node lines = list_all (is_held node) lines ≡ true

-- where a rank waits before these statements
abbrev pub waits_first : List Statement → Option WaitsAtView
waits_first [] = None
waits_first (x ∷ xs) = Some (record { left = length (x ∷ xs); calls = [] })

abbrev pub end_first : List Statement → EndView
end_first statements = record { lines = []; origins = []; waits = waits_first statements }

-- how the gossip of this process ended
abbrev pub gossip_at : Option Worked → Option GossipEnd
gossip_at None = None
gossip_at (Some w) = Some w.gossip

-- where a process's gossip ended for the gate, that gives up at one of its first so many steps of some kind
abbrev pub AreGivenUpBy : (ℕ → BusStep → ℕ → Type 0) → (turns : ℕ) → List Worked → Type 0
AreGivenUpBy gives_up turns ws = (i : ℕ) (w : Worked) → slice_get ws i ≡ Some w → w.gossip ≡ GaveUp → GivesUpWithin gives_up i turns

-- the gossip of some process ended for the gate
abbrev pub OneGaveUp : List Worked → Type 0
OneGaveUp ws = (p : ℕ) × (gossip_at (slice_get ws p) ≡ Some GaveUp)

abbrev pub NoneGaveUp : List Worked → Type 0
NoneGaveUp ws = (p : ℕ) → (gossip_at (slice_get ws p) ≡ Some GaveUp) → ⊥
