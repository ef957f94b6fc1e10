-- What a script comes to for a program in C: an end, its status, and a text in the caller's room.
use Rattle.std.specs.Prelude.{◌≡◌, ◌≢◌, ℕ, ◌≤◌, ◌<◌, List, [], ◌∷◌, ◌++◌, codes, length, drop, slice_get, unwrap_or, Ok, Err}
use Rattle.mpx_num.specs.Own.{operation_of}
use Rattle.mpx_num.specs.Types.{is_paired}
use Rattle.mpx_num.specs.declared.own.Operation.{Operation}
use Rattle.mpx_affine.specs.Composition.{composed}
use Rattle.mpx_eval.specs.Complaints.{ComplaintView}
use Rattle.mpx_eval.specs.Evaluated.{IsEvaluated}
use Rattle.mpx_eval.specs.Findings.{AreFindings}
use Rattle.mpx_eval.specs.Waiting.{WaitingView}
use Rattle.mpx_meaning.specs.Transcripts.{text_upto}
use Rattle.mpx_script.specs.Faults.{error_text}
use Rattle.mpx_script.specs.Reading.{reading}
use Rattle.mpx_script.specs.ScriptView.{ScriptView}
use Rattle.mpx_script.specs.declared.faults.ScriptError.{ScriptError}
use Rattle.gossipmpi_c.specs.Explained.{AreLines, AreRefusedLines}
use Rattle.gossipmpi_c.specs.declared.answer.Asked.{Asked}
use Rattle.gossipmpi_c.specs.declared.answer.Asked.TheVariants.{Evaluation, Reading, Explanation}
use Rattle.gossipmpi_c.specs.declared.answer.End.{End}
use Rattle.gossipmpi_c.specs.declared.answer.End.TheVariants.{Finished, Waiting, Refused, Memory}

-- the operations of a job's own that scripts may name are one: `affine`, for pairs, the composition of affine maps
abbrev pub own_operations : List Operation
own_operations = operation_of (codes "affine") is_paired composed ∷ []

-- ENDS

-- the status of an end in C
abbrev pub status_of : End → ℕ
status_of Finished = 0
status_of Refused = 2
status_of Waiting = 3
status_of Memory = 4

-- finished where nobody waits
abbrev pub EndsSo : {A : Type 0} → End → List A → Type 0
EndsSo Finished waiting = waiting ≡ []
EndsSo Waiting waiting = waiting ≢ []
EndsSo Refused waiting = ⊥
EndsSo Memory waiting = ⊥

-- EVALUATION

-- the lines of a rank
abbrev pub lines_at : List (List (List ℕ)) → ℕ → List (List ℕ)
lines_at transcripts p = unwrap_or (slice_get transcripts p) []

-- the text is no script, and this is its refusal
pub record Refuses (ops : List Operation) (script text : List ℕ) : Type 0 where
  pub refusal : ScriptError
  pub read : reading ops script ≡ Err refusal
  pub is : text ≡ error_text refusal

-- the text is read as a script; end and lines are those of its one evaluation
pub record Evaluates (ops : List Operation) (script : List ℕ) (end : End) (text : List ℕ) : Type 0 where
  pub read_as : ScriptView
  pub read : reading ops script ≡ Ok read_as
  pub transcripts : List (List (List ℕ))
  pub waiting : List ℕ
  pub evaluated : IsEvaluated ops read_as transcripts waiting
  pub ends : EndsSo end waiting
  pub is : text ≡ text_upto (lines_at transcripts) read_as.ranks

-- an evaluation, or the refusal; without memory there is no text
abbrev pub IsEvaluatedTo : List Operation → (script : List ℕ) → End → (text : List ℕ) → Type 0
IsEvaluatedTo ops script Refused text = Refuses ops script text
IsEvaluatedTo ops script Memory text = text ≡ []
IsEvaluatedTo ops script end text = Evaluates ops script end text

-- how a refusal is answered
abbrev pub IsRefusedBy : ScriptError → End → (text : List ℕ) → Type 0
IsRefusedBy refusal Refused text = text ≡ error_text refusal
IsRefusedBy refusal Memory text = text ≡ []
IsRefusedBy refusal end text = ⊥

-- READING

-- a script can be read, and there is no text; or the refusal
abbrev pub IsCheckedTo : List Operation → (script : List ℕ) → End → (text : List ℕ) → Type 0
IsCheckedTo ops script Refused text = Refuses ops script text
IsCheckedTo ops script Memory text = text ≡ []
IsCheckedTo ops script Waiting text = ⊥
IsCheckedTo ops script Finished text = (read_as : ScriptView) × (reading ops script ≡ Ok read_as) × (text ≡ [])

-- EXPLANATION

-- the text is no script, and this explains why
pub record ExplainsRefusal (ops : List Operation) (script text : List ℕ) : Type 0 where
  pub refusal : ScriptError
  pub read : reading ops script ≡ Err refusal
  pub are : AreRefusedLines ops script refusal text

-- the text is read as a script; end and lines are of what is found in its one evaluation
pub record ExplainsEvaluation (ops : List Operation) (script : List ℕ) (end : End) (text : List ℕ) : Type 0 where
  pub read_as : ScriptView
  pub read : reading ops script ≡ Ok read_as
  pub waiting : List WaitingView
  pub complaints : List ComplaintView
  pub unheard : List ComplaintView
  pub found : AreFindings ops read_as waiting complaints unheard
  pub ends : EndsSo end waiting
  pub are : AreLines script read_as.statements waiting complaints unheard text

abbrev pub IsExplainedTo : List Operation → (script : List ℕ) → End → (text : List ℕ) → Type 0
IsExplainedTo ops script Refused text = ExplainsRefusal ops script text
IsExplainedTo ops script Memory text = text ≡ []
IsExplainedTo ops script end text = ExplainsEvaluation ops script end text

-- ANSWERS

-- what is asked comes to this end and this text
abbrev pub Comes : Asked → List Operation → (script : List ℕ) → End → (text : List ℕ) → Type 0
Comes Evaluation ops script end text = IsEvaluatedTo ops script end text
Comes Reading ops script end text = IsCheckedTo ops script end text
Comes Explanation ops script end text = IsExplainedTo ops script end text

-- how a text is written into the caller's room: its length is given; where it fits it is at the beginning, else nothing is changed
pub record IsWritten (text old new : List ℕ) (needed : ℕ) : Type 0 where
  pub long : needed ≡ length text
  pub fits : length text ≤ length old → new ≡ text ++ drop (length text) old
  pub stays : length old < length text → new ≡ old

-- what an export answers: a status, and a text in the caller's room
pub record Answers (Is : End → List ℕ → Type 0) (old new : List ℕ) (needed status : ℕ) : Type 0 where
  pub end : End
  pub text : List ℕ
  pub comes : Is end text
  pub ends : status ≡ status_of end
  pub written : IsWritten text old new needed
