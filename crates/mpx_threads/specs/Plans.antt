-- The plan of a run: what each process posts in the evaluation of the script.
use Rattle.std.specs.Prelude.{◌≡◌, ℕ, zero, suc, ◌+◌, true, List, [], ◌∷◌, ◌++◌, length, map}
use Rattle.mpx_num.specs.declared.own.Operation.{Operation}
use Rattle.mpx_name.specs.Name.{Name}
use Rattle.mpx_post.specs.Posts.{Given}
use Rattle.mpx_value.specs.Histories.{Made}
use Rattle.mpx_bus.specs.declared.act.Setup.{Setup}
use Rattle.mpx_script.specs.ScriptView.{ScriptView}
use Rattle.mpx_meaning.specs.Evaluation.{State, IsEvaluation}
pub use Rattle.mpx_shared.specs.LawfulPorts.{planned_results}

-- a post, as a plan has it
abbrev pub as_planned : Made → Name × Given
as_planned m = (m.name, m.given)

-- the posts of the first n ranks
abbrev pub plan_upto : State → ℕ → List (List (Name × Given))
plan_upto end zero = []
plan_upto end (suc n) = plan_upto end n ++ map as_planned (end n).made ∷ []

-- so many ranks and relays, these operations of the job's own, and each rank's posts there
abbrev pub setup_by : (operations : List Operation) (ranks relays : ℕ) → State → Setup
setup_by operations ranks relays end = record { ranks = ranks; size = ranks + relays; operations = operations; planned = true; plan = plan_upto end ranks }

-- the plan is the posts of the script's evaluation by the setup's operations
pub record Plans (script : ScriptView) (relays : ℕ) (setup : Setup) : Type 0 where
  pub counted : length script.statements ≡ script.ranks
  pub end : State
  pub evaluation : IsEvaluation setup.operations script.statements script.ranks end
  pub setup_is : setup ≡ setup_by setup.operations script.ranks relays end

-- the plan is the posts of the script's evaluation, by so many relays or so many
abbrev pub IsPlannedByScript : ScriptView → Setup → Type 0
IsPlannedByScript script setup = (relays : ℕ) × Plans script relays setup
