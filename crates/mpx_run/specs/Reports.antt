-- The text of a run and of an evaluation, how it ends, and why.
use Rattle.std.specs.Prelude.{◌≡◌, ◌≢◌, ℕ, ◌<◌, ◌≤◌, Bool, true, false, List, [], length, Option, None, Some, IfSome, slice_get, unwrap_or}
use Rattle.mpx_num.specs.declared.own.Operation.{Operation}
use Rattle.mpx_statement.specs.declared.job.Options.{Options}
use Rattle.mpx_script.specs.ScriptView.{ScriptView}
use Rattle.mpx_meaning.specs.Evaluation.{State}
use Rattle.mpx_meaning.specs.Reports.{is_left, lines_in, waiting_in, which}
use Rattle.mpx_meaning.specs.Transcripts.{text_upto}
use Rattle.mpx_system.specs.Runs.{AreWhole, Begin, IsEvaluationOf}
use Rattle.mpx_run.specs.declared.end.Cause.{Cause}
use Rattle.mpx_run.specs.declared.end.Cause.TheVariants.{InEveryRun, TurnsUsedUp, AllLost, Unknown}
use Rattle.mpx_run.specs.declared.end.End.{End}
use Rattle.mpx_run.specs.declared.end.End.TheVariants.{Finished, Waiting}

abbrev pub lines_at : List (List (List ℕ)) → ℕ → List (List ℕ)
lines_at transcripts p = unwrap_or (slice_get transcripts p) []

-- finished where nobody waits, else those who do
abbrev pub EndsSo : End → List ℕ → Type 0
EndsSo Finished waiting = waiting ≡ []
EndsSo (Waiting ranks cause) waiting = (ranks.items ≡ waiting) × (waiting ≢ [])

-- why ranks wait, as it is told where some do
abbrev pub told_cause : End → Option Cause
told_cause Finished = None
told_cause (Waiting ranks cause) = Some cause

-- where somebody waits this is told to be the cause
abbrev pub IsBy : Cause → End → Type 0
IsBy cause end = IfSome (told_cause end) (λ told. told ≡ cause)

-- with these options it may be told that ranks wait for this cause
abbrev pub MayTell : Options → Cause → Type 0
MayTell options InEveryRun = Unit {0}
MayTell options (TurnsUsedUp turns) = (options.threads ≡ false) × (turns ≡ options.turns)
MayTell options AllLost = (options.threads ≡ false) × (100 ≤ options.loss)
MayTell options Unknown = options.threads ≡ true

-- each rank that has something left there is one of these
abbrev pub EachWaits : (waiting : List ℕ) → (ranks : ℕ) → State → Type 0
EachWaits waiting ranks s = (p : ℕ) → p < ranks → is_left (s p).todo ≡ true → (place : ℕ) × (slice_get waiting place ≡ Some p)

-- the text and the end are those of the evaluation: all its lines rank by rank, and who waits there
pub record IsAllOf (script : ScriptView) (end : End) (text : List ℕ) (evaluation : State) : Type 0 where
  pub lines : text ≡ text_upto (lines_in evaluation) script.ranks
  pub ends : EndsSo end (waiting_in evaluation script.ranks)

-- the text and the end of a script's evaluation by the job's own operations; who waits there does in every run
pub record IsEvaluatedText (ops : List Operation) (script : ScriptView) (end : End) (text : List ℕ) : Type 0 where
  pub evaluation : State
  pub is : IsEvaluationOf ops script evaluation
  pub all : IsAllOf script end text evaluation
  pub cause : IfSome (told_cause end) (λ told. told ≡ InEveryRun)

-- the text and the end of a run with these options: the lines of its ranks, rank by rank, and which of these wait, in rising order. The lines begin the evaluation's; those of a rank that doesn't
-- wait are all that it has there, and who has something left there waits. Where nobody waits the text is the evaluation's, and where it is told that those who wait do
-- in every run, text and end are
pub record IsOfRun (ops : List Operation) (options : Options) (script : ScriptView) (transcripts : List (List (List ℕ))) (waiting : List ℕ) (end : End) (text : List ℕ) : Type 0 where
  pub ranks_are : length transcripts ≡ script.ranks
  pub lines : text ≡ text_upto (λ p. unwrap_or (slice_get transcripts p) []) script.ranks
  pub in_order : (waits : ℕ → Bool) × (waiting ≡ which waits script.ranks)
  pub ends : EndsSo end waiting
  pub cause : IfSome (told_cause end) (MayTell options)
  pub begins : (evaluation : State) → IsEvaluationOf ops script evaluation → Begin transcripts evaluation
  pub done : (evaluation : State) → IsEvaluationOf ops script evaluation → AreWhole transcripts waiting evaluation
  pub waits : (evaluation : State) → IsEvaluationOf ops script evaluation → (p : ℕ) → p < script.ranks → is_left (evaluation p).todo ≡ true → (place : ℕ) × (slice_get waiting place ≡ Some p)
  pub whole : (evaluation : State) → IsEvaluationOf ops script evaluation → end ≡ Finished → text ≡ text_upto (lines_in evaluation) script.ranks
  pub rests : told_cause end ≡ Some InEveryRun → (evaluation : State) → IsEvaluationOf ops script evaluation → IsAllOf script end text evaluation

-- what is printed of a run with these options, in threads or simulated
pub record IsPrinted (ops : List Operation) (options : Options) (script : ScriptView) (end : End) (text : List ℕ) : Type 0 where
  pub transcripts : List (List (List ℕ))
  pub waiting : List ℕ
  pub prints : IsOfRun ops options script transcripts waiting end text
