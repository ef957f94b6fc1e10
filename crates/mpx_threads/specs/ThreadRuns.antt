-- What a run in threads comes to.
use Rattle.std.specs.Prelude.{◌≡◌, ◌↔◌, ℕ, ◌<◌, ◌≤◌, ◌+◌, Bool, true, List, [], length, slice_get, Some}
use Rattle.atomic_table.specs.Seated.{TableId}
use Rattle.mpx_num.specs.declared.own.Operation.{Operation}
use Rattle.mpx_bus.specs.Ports.{PortView, node_in}
use Rattle.mpx_shared.specs.LawfulPorts.{IsLawful, made_in}
use Rattle.mpx_value.specs.Histories.{birth_of}
use Rattle.mpx_script.specs.ScriptView.{ScriptView}
use Rattle.mpx_meaning.specs.Ranks.{Local}
use Rattle.mpx_meaning.specs.Evaluation.{State, IsEvaluation, IsPrefixOf, bound_at_start, history, known, start_state, statements_of}
use Rattle.mpx_meaning.specs.Going.{Goes}
use Rattle.mpx_meaning.specs.Told.{CarriesOut}
use Rattle.mpx_meaning.specs.Reports.{lines_in, waiting_in}
use Rattle.mpx_system.specs.Systems.{TellsResults, node_tells}
use Rattle.mpx_threads.specs.Plans.{setup_by}
use Rattle.mpx_threads.specs.Rest.{AreAtRest}

-- the rank has come there by answers of the evaluation, each of which is that of a result that its port's node holds, where
-- communicators came to be as they do there; each line that tells an outcome tells that of a stored result, beside the rank's own
-- post; and the port has made its posts, and where the rank has nothing left, no others
pub record IsDone (ops : List Operation) (script : ScriptView) (end : State) (p : ℕ) (port : PortView) (s : Local) : Type 0 where
  pub goes : Goes ops (known ops script.ranks end p) (start_state script.statements script.ranks p) s
  pub carries_out : CarriesOut ops (node_tells (birth_of (history ops end) script.ranks) (node_in port)) (bound_at_start script.ranks) (statements_of script.statements p) s
  pub told : TellsResults (node_in port) s
  pub posts : IsPrefixOf s.made (made_in port)
  pub no_others : s.todo ≡ [] → made_in port ≡ s.made

-- all ports are of one bus, and what they posted is planned by the script's evaluation by the job's own operations, relays none; each rank has come so far in its
-- statements, and has these lines; these ranks have something left; and it rests just where no rank can go on by what the ports say
pub record IsThreadRun (ops : List Operation) (script : ScriptView) (relays : ℕ) (table : TableId) (ports : List PortView) (transcripts : List (List (List ℕ))) (waiting : List ℕ) (rests : Bool) : Type 0 where
  pub end : State
  pub evaluation : IsEvaluation ops script.statements script.ranks end
  pub count : length ports ≡ script.ranks + relays
  pub lawful : (p : ℕ) (port : PortView) → slice_get ports p ≡ Some port → IsLawful table (setup_by ops script.ranks relays end) p port
  pub relays_post_nothing : (p : ℕ) (port : PortView) → slice_get ports p ≡ Some port → script.ranks ≤ p → made_in port ≡ []
  pub ranks : State
  pub done : (p : ℕ) (port : PortView) → slice_get ports p ≡ Some port → p < script.ranks → IsDone ops script end p port (ranks p)
  pub ranks_are : length transcripts ≡ script.ranks
  pub lines : (p : ℕ) (lines : List (List ℕ)) → slice_get transcripts p ≡ Some lines → lines ≡ lines_in ranks p
  pub waiting_are : waiting ≡ waiting_in ranks script.ranks
  pub rest : (rests ≡ true) ↔ AreAtRest script.ranks ranks ports
