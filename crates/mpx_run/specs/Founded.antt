-- On what a run stands of which a text and an end are printed: one world and its nodes, or the ports of one bus.
use Rattle.std.specs.Prelude.{ℕ, Bool, true, false, List, if◌then◌else◌, nat_le}
use Rattle.atomic_table.specs.Seated.{TableId}
use Rattle.mpx_num.specs.declared.own.Operation.{Operation}
use Rattle.mpx_node.specs.Nodes.{NodeView}
use Rattle.mpx_bus.specs.Ports.{PortView}
use Rattle.mpx_statement.specs.declared.job.Options.{Options}
use Rattle.mpx_script.specs.ScriptView.{ScriptView}
use Rattle.mpx_system.specs.Runs.{IsRun, IsOver}
use Rattle.mpx_sim.specs.Ends.{AllMadeOr}
use Rattle.mpx_sim.specs.Turns.{AreAfter}
use Rattle.mpx_threads.specs.ThreadRuns.{IsThreadRun}
use Rattle.mpx_run.specs.declared.end.Cause.{Cause}
use Rattle.mpx_run.specs.declared.end.Cause.TheVariants.{InEveryRun, TurnsUsedUp, AllLost, Unknown}
use Rattle.mpx_run.specs.declared.end.End.{End}
use Rattle.mpx_run.specs.Reports.{IsBy, IsOfRun}

-- the cause where so many turns of a simulated run were made
abbrev pub cause_of : (made : ℕ) → Options → Cause
cause_of made options =
    if nat_le 100 options.loss then AllLost else
    if nat_le options.turns made then TurnsUsedUp options.turns else
    InEveryRun

-- the cause where a run in threads rests, or where that isn't known
abbrev pub thread_cause : (rests : Bool) → Cause
thread_cause true = InEveryRun
thread_cause false = Unknown

-- of a simulated run with these nodes and these lines: one world, by what is drawn of the seed in so many turns, from which the cause follows
pub record IsSimulatedBy (nodes : List NodeView) (transcripts : List (List (List ℕ))) (ops : List Operation) (options : Options) (script : ScriptView) (end : End) (text : List ℕ) : Type 0 where
  pub waiting : List ℕ
  pub turns : ℕ
  pub run : IsRun ops script options.relays nodes transcripts waiting
  pub prints : IsOfRun ops options script transcripts waiting end text
  pub after : AreAfter ops script options.relays options.seed options.loss turns nodes
  pub ended : AllMadeOr turns options.turns (IsOver ops script options.relays options.loss nodes transcripts waiting)
  pub cause : IsBy (cause_of turns options) end

-- of a simulated run, with its nodes and its lines
pub record IsSimulated (ops : List Operation) (options : Options) (script : ScriptView) (end : End) (text : List ℕ) : Type 0 where
  pub nodes : List NodeView
  pub transcripts : List (List (List ℕ))
  pub by : IsSimulatedBy nodes transcripts ops options script end text

-- of a run in threads with these ports and these lines, in which each process counts its turns: all ports are of one bus, and say whether it rests, from which the cause follows
pub record IsThreadedBy (ports : List PortView) (transcripts : List (List (List ℕ))) (ops : List Operation) (options : Options) (script : ScriptView) (end : End) (text : List ℕ) : Type 0 where
  pub table : TableId
  pub waiting : List ℕ
  pub rests : Bool
  pub run : IsThreadRun ops script options.relays table ports transcripts waiting rests
  pub prints : IsOfRun ops options script transcripts waiting end text
  pub cause : IsBy (thread_cause rests) end

-- of a run in threads, with its ports and its lines
pub record IsThreaded (ops : List Operation) (options : Options) (script : ScriptView) (end : End) (text : List ℕ) : Type 0 where
  pub ports : List PortView
  pub transcripts : List (List (List ℕ))
  pub by : IsThreadedBy ports transcripts ops options script end text

abbrev pub IsFoundedIn : (threads : Bool) → List Operation → Options → ScriptView → End → List ℕ → Type 0
IsFoundedIn true ops options script end text = IsThreaded ops options script end text
IsFoundedIn false ops options script end text = IsSimulated ops options script end text

-- what is printed of a run with these options, and on what it stands
abbrev pub IsFounded : List Operation → Options → ScriptView → End → List ℕ → Type 0
IsFounded ops options script end text = IsFoundedIn options.threads ops options script end text
