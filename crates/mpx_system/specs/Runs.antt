-- What a run of a script comes to.
use Rattle.std.specs.Prelude.{◌≡◌, ℕ, ◌<◌, ◌≤◌, ◌+◌, ◌⊎◌, List, [], length, slice_get, Some}
use Rattle.mpx_num.specs.declared.own.Operation.{Operation}
use Rattle.mpx_node.specs.Nodes.{NodeView}
use Rattle.mpx_script.specs.ScriptView.{ScriptView}
use Rattle.mpx_meaning.specs.Evaluation.{State, IsEvaluation, IsPrefixOf, bound_at_start, statements_of}
use Rattle.mpx_meaning.specs.Told.{CarriesOut}
use Rattle.mpx_meaning.specs.Reports.{lines_in, waiting_in}
use Rattle.mpx_world.specs.Soundness.{Sound}
use Rattle.mpx_system.specs.Systems.{System, IsOfHappenings, Leads, start_system, TellsResults, world_tells}
use Rattle.mpx_system.specs.Rest.{WaitsBy}

-- by the job's own operations doings lead from the start to a sound world with these nodes; what can happen leads to it, so that each law of such histories is
-- of it. In it each process has posted what its rank has and a relay nothing; the ranks carry out their statements by what their
-- nodes hold and have these lines, each outcome among them beside the rank's own post; and these ranks have something left
pub record IsRun (ops : List Operation) (script : ScriptView) (relays : ℕ) (nodes : List NodeView) (transcripts : List (List (List ℕ))) (waiting : List ℕ) : Type 0 where
  pub system : System
  pub led : Leads script.ranks (start_system ops script.statements script.ranks (script.ranks + relays)) system
  pub world : IsOfHappenings ops script.ranks (script.ranks + relays) system.world
  pub sound : Sound system.world
  pub processes : length nodes ≡ script.ranks + relays
  pub nodes_are : (p : ℕ) (node : NodeView) → slice_get nodes p ≡ Some node → node ≡ (system.world.each p).node
  pub posts : (p : ℕ) → (system.world.each p).made ≡ (system.ranks p).made
  pub relays_post_nothing : (p : ℕ) → script.ranks ≤ p → (system.world.each p).made ≡ []
  pub carries_out : (p : ℕ) → CarriesOut ops (world_tells system.world p) (bound_at_start script.ranks) (statements_of script.statements p) (system.ranks p)
  pub told : (p : ℕ) → TellsResults (system.world.each p).node (system.ranks p)
  pub ranks_are : length transcripts ≡ script.ranks
  pub lines : (p : ℕ) (lines : List (List ℕ)) → slice_get transcripts p ≡ Some lines → lines ≡ lines_in system.ranks p
  pub waiting_are : waiting ≡ waiting_in system.ranks script.ranks

-- this is the evaluation of the script by the job's own operations
abbrev pub IsEvaluationOf : List Operation → ScriptView → State → Type 0
IsEvaluationOf ops script evaluation = IsEvaluation ops script.statements script.ranks evaluation

-- each rank's lines begin those that it has there
abbrev pub Begin : List (List (List ℕ)) → State → Type 0
Begin transcripts s = (p : ℕ) (lines : List (List ℕ)) → slice_get transcripts p ≡ Some lines → IsPrefixOf lines (lines_in s p)

-- those of a rank that doesn't wait are all of them
abbrev pub AreWhole : List (List (List ℕ)) → List ℕ → State → Type 0
AreWhole transcripts waiting s = (p : ℕ) (lines : List (List ℕ)) → slice_get transcripts p ≡ Some lines
    → ((place : ℕ) → (slice_get waiting place ≡ Some p) → ⊥) → lines ≡ lines_in s p

-- they are all lines that the ranks have there, and those wait that have something left there
pub record AreAll (transcripts : List (List (List ℕ))) (waiting : List ℕ) (ranks : ℕ) (s : State) : Type 0 where
  pub lines : (p : ℕ) (lines : List (List ℕ)) → slice_get transcripts p ≡ Some lines → lines ≡ lines_in s p
  pub who : waiting ≡ waiting_in s ranks

-- all processes have one board
abbrev pub HaveOneBoard : List NodeView → Type 0
HaveOneBoard nodes = (p q : ℕ) (a b : NodeView) → slice_get nodes p ≡ Some a → slice_get nodes q ≡ Some b → a.board ≡ b.board

-- each rank waits: whatever it is told of what is at hand at its node, it has no move
abbrev pub AllWait : List Operation → (ranks : ℕ) → System → Type 0
AllWait ops ranks s = (p : ℕ) → p < ranks → WaitsBy ops (s.world.each p).node (s.ranks p)

-- a run is over: no rank has anything left; or each rank waits, and nothing more comes to it, since all boards are one or every frame is lost
pub record IsOver (ops : List Operation) (script : ScriptView) (relays loss : ℕ) (nodes : List NodeView) (transcripts : List (List (List ℕ))) (waiting : List ℕ) : Type 0 where
  pub run : IsRun ops script relays nodes transcripts waiting
  pub over : (waiting ≡ []) ⊎ ((HaveOneBoard nodes ⊎ (100 ≤ loss)) × AllWait ops script.ranks run.system)
