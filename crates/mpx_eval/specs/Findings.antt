-- What is told of a script's evaluation: who waits at its end, which of its lines say that a call was refused or is a fault, and which
-- faults no line tells.
use Rattle.std.specs.Prelude.{◌≡◌, List}
use Rattle.mpx_num.specs.declared.own.Operation.{Operation}
use Rattle.mpx_script.specs.ScriptView.{ScriptView}
use Rattle.mpx_meaning.specs.Evaluation.{State, IsEvaluation}
use Rattle.mpx_eval.specs.Complaints.{ComplaintView, complaints_in}
use Rattle.mpx_eval.specs.Unheard.{unheard_in}
use Rattle.mpx_eval.specs.Waiting.{WaitingView, waiting_in_full}

-- there is an evaluation of the script by these operations at whose end these wait so, whose lines have these complaints, and these faults
-- are of open requests
pub record AreFindings (ops : List Operation) (script : ScriptView) (waiting : List WaitingView) (complaints unheard : List ComplaintView) : Type 0 where
  pub end : State
  pub evaluation : IsEvaluation ops script.statements script.ranks end
  pub waiting_are : waiting ≡ waiting_in_full ops script.statements script.ranks end
  pub complaints_are : complaints ≡ complaints_in script.statements script.ranks end
  pub unheard_are : unheard ≡ unheard_in ops script.statements script.ranks end
