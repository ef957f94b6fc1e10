-- Whether a script has a call that is refused or is a fault.
use Rattle.std.specs.Prelude.{◌≡◌, Bool, true, false, ◌||◌, ℕ, List, [], ◌∷◌, Result, Ok, Err}
use Rattle.mpx_num.specs.declared.own.Operation.{Operation}
use Rattle.mpx_statement.specs.declared.job.Command.{Command}
use Rattle.mpx_statement.specs.declared.job.Command.TheVariants.{Run, Eval, Check}
use Rattle.mpx_script.specs.Reading.{reading}
use Rattle.mpx_script.specs.ScriptView.{ScriptView}
use Rattle.mpx_script.specs.declared.faults.ScriptError.{ScriptError}
use Rattle.mpx_meaning.specs.Evaluation.{State, IsEvaluation}
use Rattle.mpx_eval.specs.Certain.{certain_in}
use Rattle.mpx_eval.specs.Complaints.{ComplaintView, complaints_in}
use Rattle.mpx_eval.specs.Unheard.{unheard_in}
use Rattle.mpx_words.specs.declared.invocation.Invocation.{Invocation}

abbrev pub is_any : List ComplaintView → Bool
is_any [] = false
is_any (complaint ∷ more) = true

-- some line of its evaluation says that a call was refused or is a fault, or the call of a request is a fault that no line tells
pub record ComplainsIn (ops : List Operation) (script : ScriptView) (complains : Bool) : Type 0 where
  pub end : State
  pub evaluation : IsEvaluation ops script.statements script.ranks end
  pub is : complains ≡ (is_any (complaints_in script.statements script.ranks end) || is_any (unheard_in ops script.statements script.ranks end))

-- where it is run or evaluated, that; where it is checked, some call on `world` is refused for certain
abbrev pub Complains : List Operation → Command → ScriptView → (complains : Bool) → Type 0
Complains ops Run script complains = ComplainsIn ops script complains
Complains ops Eval script complains = ComplainsIn ops script complains
Complains ops Check script complains = complains ≡ is_any (certain_in ops script)

-- of a text that is read so
abbrev pub ComplainsOf : List Operation → Command → Result ScriptView ScriptError → (complains : Bool) → Type 0
ComplainsOf ops command (Ok script) complains = Complains ops command script complains
ComplainsOf ops command (Err refusal) complains = complains ≡ false

-- where it is asked for
abbrev pub IsAsked : (strict : Bool) → (asked : Type 0) → (complains : Bool) → Type 0
IsAsked true asked complains = asked
IsAsked false asked complains = complains ≡ false

abbrev pub IsStrict : List Operation → Invocation → (text : List ℕ) → (complains : Bool) → Type 0
IsStrict ops call text complains = IsAsked call.flags.strict (ComplainsOf ops call.job.command (reading ops text) complains) complains
