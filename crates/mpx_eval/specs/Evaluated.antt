-- What the evaluation of a script comes to.
use Rattle.std.specs.Prelude.{◌≡◌, ℕ, List, length, slice_get, Some}
use Rattle.mpx_num.specs.declared.own.Operation.{Operation}
use Rattle.mpx_script.specs.ScriptView.{ScriptView}
use Rattle.mpx_meaning.specs.Evaluation.{State, IsEvaluation}
use Rattle.mpx_meaning.specs.Ends.{EndView, end_of}
use Rattle.mpx_meaning.specs.Reports.{lines_in, waiting_in}

-- there is an evaluation of the script by these operations with these lines of its ranks and these ranks that wait
pub record IsEvaluated (ops : List Operation) (script : ScriptView) (transcripts : List (List (List ℕ))) (waiting : List ℕ) : Type 0 where
  pub end : State
  pub evaluation : IsEvaluation ops script.statements script.ranks end
  pub ranks_are : length transcripts ≡ script.ranks
  pub lines : (p : ℕ) (lines : List (List ℕ)) → slice_get transcripts p ≡ Some lines → lines ≡ lines_in end p
  pub waiting_are : waiting ≡ waiting_in end script.ranks

-- there is an evaluation of the script by these operations at which its ranks end so
pub record EndSo (ops : List Operation) (script : ScriptView) (ends : List EndView) : Type 0 where
  pub end : State
  pub evaluation : IsEvaluation ops script.statements script.ranks end
  pub ranks_are : length ends ≡ script.ranks
  pub each : (p : ℕ) (e : EndView) → slice_get ends p ≡ Some e → e ≡ end_of (end p)
