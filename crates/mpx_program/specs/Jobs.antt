-- What a call of the program does.
use Rattle.std.specs.Prelude.{◌≡◌, ◌≢◌, ◌⊎◌, ℕ, Bool, take, List, ◌++◌, [], ◌∷◌, Option, Some, None, Result, Ok, Err, IfOk, codes}
use Rattle.std.specs.Io.KnownBytes.{Appends}
use Rattle.clap.specs.Faults.{fault_of}
use Rattle.clap.specs.Kinds.{IsAmong, or_else}
use Rattle.clap.specs.declared.error.kind.ErrorKind.{ErrorKind}
use Rattle.clap.specs.declared.error.kind.ErrorKind.TheVariants as kind
use Rattle.mpx_num.specs.declared.own.Operation.{Operation}
use Rattle.mpx_threads.specs.Gates.{nowhere}
use Rattle.mpx_statement.specs.declared.job.Job.{Job}
use Rattle.mpx_script.specs.Reading.{reading}
use Rattle.mpx_script.specs.ScriptView.{ScriptView}
use Rattle.mpx_script.specs.declared.faults.ScriptError.{ScriptError}
use Rattle.mpx_run.specs.Founded.{IsFounded}
use Rattle.mpx_run.specs.Left.{IsLeftIn}
use Rattle.mpx_run.specs.Reports.{IsPrinted}
use Rattle.mpx_run.specs.Texts.{OfRuns, Prints, RunsUngated, TakesInput}
use Rattle.mpx_run.specs.declared.end.End.{End}
use Rattle.mpx_run.specs.declared.streams.WriteFault.{WriteFault}
use Rattle.mpx_run.specs.declared.report.Left.{Left}
use Rattle.mpx_run.specs.declared.texts.RunError.{RunError}
use Rattle.mpx_run.specs.declared.texts.RunError.TheVariants.{GateGaveUp, Script}
use Rattle.mpx_program.specs.Explained.{OfEnds, TellsMore, TellsRefused, ended_in}
use Rattle.mpx_program.specs.Status.{advice, explanation, message, refusal_status, status}
use Rattle.mpx_program.specs.Strict.{IsStrict}
use Rattle.mpx_words.specs.Usage.{usage}
use Rattle.mpx_words.specs.Words.{invocation_in}
use Rattle.mpx_words.specs.declared.invocation.Invocation.{Invocation}

-- what is said is out; where the writer fails, a beginning of it
abbrev pub Tells : (old new : Option (List ℕ)) (told : Result (Unit {0}) WriteFault) (said : List ℕ) → Type 0
Tells old new (Ok done) said = Appends old new said
Tells old new (Err fault) said = (n : ℕ) × Appends old new (take n said)

-- a job with this answer, whose script has calls to complain of or not, gives the status and what is said
pub record Exits (answer : Result End RunError) (complains explains : Bool) (more : List ℕ) (code : ℕ) (Says : List ℕ → Type 0) : Type 0 where
  pub status : code ≡ status complains answer
  pub says : Says (message answer ++ advice complains explains answer ++ explanation explains answer more)

-- where a job comes to an end, whether the script has calls to complain of is as `--strict` asks
abbrev pub StrictOn : List Operation → Invocation → (text : List ℕ) → Result End RunError → (complains : Bool) → Type 0
StrictOn ops call text (Ok end) complains = IsStrict ops call text complains
StrictOn ops call text (Err error) complains = Unit {0}

-- what more is said of a job for this call with a script of this text, which came to this end, and of which that text is out
abbrev pub OfMore : Type 1
OfMore = List Operation → Invocation → ScriptView → (text : List ℕ) → End → (out more : List ℕ) → Type 0

-- the same of a job with a text that is read so
abbrev pub TellsRead : OfMore → List Operation → Invocation → Result ScriptView ScriptError → (text : List ℕ) → End → (out more : List ℕ) → Type 0
TellsRead Of ops call (Ok script) text end out more = Of ops call script text end out more
TellsRead Of ops call (Err refusal) text end out more = Unit {0}

-- where a job comes to an end, a text is out, and this is said more of the job that printed it
abbrev pub ExplainsOn : OfMore → List Operation → Invocation → (text : List ℕ) → (old new : Option (List ℕ)) → Result End RunError → (more : List ℕ) → Type 0
ExplainsOn Of ops call text old new answer more = IfOk answer (λ end. (out : List ℕ) × Appends old new out × TellsRead Of ops call (reading ops text) text end out more)

-- what more is said for this call of a text that is no script
abbrev pub OfRefused : Type 1
OfRefused = List Operation → Invocation → (text more : List ℕ) → Type 0

-- where a job's script is refused, that is said of the text that a reader gives
abbrev pub ExplainsRefused : OfRefused → List Operation → Invocation → (there left : Option (List ℕ)) → Result End RunError → (more : List ℕ) → Type 0
ExplainsRefused Of ops call there left answer more = (refusal : ScriptError) → answer ≡ Err (Script refusal) → (text : List ℕ) × TakesInput there left text × Of ops call text more

-- what is promised of jobs: of a run's end and text, and of what more is said
pub record OfJobs : Type 1 where
  pub runs : OfRuns
  pub tells : OfMore
  pub refused : OfRefused

-- what is printed, whatever more is said
abbrev pub AsPrinted : OfJobs
AsPrinted = record { runs = IsPrinted; tells = λ ops call script text end out more. Unit {0}; refused = λ ops call text more. Unit {0} }

-- a run with this text and end, by what is left of it, ended so
abbrev pub HasEnded : OfEnds
HasEnded ops options script end text ended = (left : Left) × IsLeftIn options.threads ops options script end text left × (ended ≡ ended_in script.ranks left)

-- on what a run stands, and what `--explain` says
abbrev pub AsFounded : OfJobs
AsFounded = record {
  runs = IsFounded;
  tells = λ ops call script text end out more. TellsMore HasEnded call.flags.explain ops call.job script text end out more;
  refused = λ ops call text more. TellsRefused call.flags.explain ops text more;
}

-- a call's job is done with a text by the job's own operations, and no gate ends it
pub record AnswersText (Is : OfJobs) (ops : List Operation) (call : Invocation) (text : List ℕ) (old new : Option (List ℕ)) (code : ℕ) (Says : List ℕ → Type 0) : Type 0 where
  pub answer : Result End RunError
  pub prints : Prints Is.runs ops nowhere call.job text old new answer
  pub ungated : answer ≢ Err GateGaveUp
  pub unrefused : (refusal : ScriptError) → answer ≢ Err (Script refusal)
  pub complains : Bool
  pub strict : StrictOn ops call text answer complains
  pub more : List ℕ
  pub explains : ExplainsOn Is.tells ops call text old new answer more
  pub exits : Exits answer complains call.flags.explain more code Says

-- the same of the text that a reader gives
abbrev pub StrictBy : List Operation → Invocation → (there left : Option (List ℕ)) → Result End RunError → (complains : Bool) → Type 0
StrictBy ops call there left (Ok end) complains = (text : List ℕ) × TakesInput there left text × IsStrict ops call text complains
StrictBy ops call there left (Err error) complains = Unit {0}

abbrev pub ExplainsBy : OfMore → List Operation → Invocation → (there left old new : Option (List ℕ)) → Result End RunError → (more : List ℕ) → Type 0
ExplainsBy Of ops call there left old new answer more = IfOk answer (λ end. (text : List ℕ) × TakesInput there left text × (out : List ℕ) × Appends old new out × TellsRead Of ops call (reading ops text) text end out more)

-- a reader gives a text that is read as this script, and whether it has calls to complain of is as `--strict` asks
pub record IsPrepared (ops : List Operation) (call : Invocation) (there left : Option (List ℕ)) (text : List ℕ) (script : ScriptView) (complains : Bool) : Type 0 where
  pub input : TakesInput there left text
  pub read : reading ops text ≡ Ok script
  pub strict : IsStrict ops call text complains

-- a job has no script for this reason, and nothing is written
abbrev pub FailsBefore : (ops : List Operation) (job : Job) (there left : Option (List ℕ)) (why : RunError) → Type 0
FailsBefore ops job there left why = (old : Option (List ℕ)) → RunsUngated IsFounded ops job there left old old (Err why)

-- a call's job is done with a script by the job's own operations, no gate ends it, and its answer gives the status and what is said. What is asked for
-- beside the job changes nothing of what is printed: by `--strict` the status is 6 where it is 0 or 3 else and the script has calls to complain of, and the
-- standard error is told so; by `--explain` it is told more, of the script's evaluation and of a run that ended early
pub record DoesJobWith (Is : OfJobs) (ops : List Operation) (call : Invocation) (there left old new : Option (List ℕ)) (code : ℕ) (Says : List ℕ → Type 0) : Type 0 where
  pub answer : Result End RunError
  pub runs : RunsUngated Is.runs ops call.job there left old new answer
  pub complains : Bool
  pub strict : StrictBy ops call there left answer complains
  pub more : List ℕ
  pub explains : ExplainsBy Is.tells ops call there left old new answer more
  pub refused : ExplainsRefused Is.refused ops call there left answer more
  pub exits : Exits answer complains call.flags.explain more code Says

-- a call is refused, for a reason of that kind
pub record IsRefused (why : ErrorKind) (code : ℕ) (Says : List ℕ → Type 0) : Type 0 where
  pub status : code ≡ refusal_status why
  pub says : why ≡ kind.OutOfMemory → Says (codes "out of memory\n")

-- a call is refused for its words, for a reason of a kind that clap has for them, or for want of memory: nothing is read or written
pub record RefusesWords (words : List (List ℕ)) (there left old new : Option (List ℕ)) (code : ℕ) (Says : List ℕ → Type 0) : Type 0 where
  pub why : ErrorKind
  pub asks : invocation_in words ≡ None
  pub kinds : (why ≡ kind.OutOfMemory) ⊎ IsAmong why (or_else (fault_of usage words) (kind.InvalidValue ∷ []))
  pub refused : IsRefused why code Says
  pub unread : left ≡ there
  pub unwritten : new ≡ old

-- the words ask for a job, and for what is beside it
pub record DoesWords (Is : OfJobs) (ops : List Operation) (words : List (List ℕ)) (there left old new : Option (List ℕ)) (code : ℕ) (Says : List ℕ → Type 0) : Type 0 where
  pub call : Invocation
  pub asks : invocation_in words ≡ Some call
  pub does : DoesJobWith Is ops call there left old new code Says

-- the words ask for a job, or are refused
abbrev pub DoesJob : (Is : OfJobs) (ops : List Operation) (words : List (List ℕ)) (there left old new : Option (List ℕ)) (code : ℕ) (Says : List ℕ → Type 0) → Type 0
DoesJob Is ops words there left old new code Says = DoesWords Is ops words there left old new code Says ⊎ RefusesWords words there left old new code Says
