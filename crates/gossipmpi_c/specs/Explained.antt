-- The lines that explain a script. No other file of specs names those of mpx_waiting and mpx_explain.
use Rattle.std.specs.Prelude.{ℕ, List, ◌++◌, codes}
use Rattle.mpx_num.specs.declared.own.Operation.{Operation}
use Rattle.mpx_eval.specs.Complaints.{ComplaintView}
use Rattle.mpx_eval.specs.Waiting.{WaitingView}
use Rattle.mpx_explain.specs.Findings.{AreTold}
use Rattle.mpx_explain.specs.Overflows.{AreOverflows}
use Rattle.mpx_explain.specs.RefusedLines.{AreRefusalsTold}
use Rattle.mpx_script.specs.Faults.{error_text}
use Rattle.mpx_script.specs.declared.faults.ScriptError.{ScriptError}
use Rattle.mpx_statement.specs.declared.statement.Statement.{Statement}
use Rattle.mpx_waiting.specs.ToldLines.{waiting_told}

-- first the lines of these waits, then those of complaints, of faults that no line of a transcript has, and of results past their types
pub record AreLines (text : List ℕ) (statements : List (List Statement)) (waiting : List WaitingView) (complaints unheard : List ComplaintView) (lines : List ℕ) : Type 0 where
  pub first : List ℕ
  pub second : List ℕ
  pub heard : AreTold text complaints (waiting_told text statements waiting) first
  pub faults : AreTold text unheard first second
  pub results : AreOverflows text statements waiting complaints unheard second lines

-- first this refusal, then what is said beside it, and of further refused lines
abbrev pub AreRefusedLines : List Operation → (text : List ℕ) → ScriptError → (lines : List ℕ) → Type 0
AreRefusedLines ops text refusal lines = AreRefusalsTold ops text (error_text refusal ++ codes "\n") lines
