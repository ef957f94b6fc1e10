-- What a job reads and writes.
use Rattle.std.specs.Prelude.{◌≡◌, Bool, true, false, ◌<◌, ◌≤◌, ℕ, zero, suc, pos, ◌+◌, List, [], ◌++◌, length, slice_index_or, codes, take, Option, Result, Ok, Err, IfSome}
use Rattle.std.specs.Io.KnownBytes.{Appends, Consumes, Keeps}
use Rattle.mpx_num.specs.declared.own.Operation.{Operation}
use Rattle.mpx_num.specs.Text.{number_text}
use Rattle.mpx_statement.specs.declared.statement.Statement.{Statement}
use Rattle.mpx_script.specs.ScriptView.{ScriptView}
use Rattle.mpx_script.specs.Faults.{error_text}
use Rattle.mpx_script.specs.declared.faults.ReadScriptError.{ReadScriptError}
use Rattle.mpx_script.specs.declared.faults.ReadScriptError.TheVariants as R
use Rattle.mpx_script.specs.Reading.{reading}
use Rattle.mpx_script.specs.Words.{bytes_limit}
use Rattle.mpx_run.specs.declared.streams.ReadFault.{ReadFault}
use Rattle.mpx_run.specs.declared.streams.ReadFault.TheVariants as Fault
use Rattle.mpx_run.specs.declared.end.End.{End}
use Rattle.mpx_run.specs.declared.end.End.TheVariants.{Finished}
use Rattle.mpx_statement.specs.declared.job.Command.{Command}
use Rattle.mpx_statement.specs.declared.job.Command.TheVariants.{Run, Eval, Check}
use Rattle.mpx_statement.specs.declared.job.Job.{Job}
use Rattle.mpx_statement.specs.declared.job.Options.{Options}
use Rattle.mpx_run.specs.declared.texts.RunError.{RunError}
use Rattle.mpx_run.specs.declared.texts.RunError.TheVariants as E
use Rattle.mpx_threads.specs.declared.gate.BusStep.{BusStep}
use Rattle.mpx_threads.specs.Gates.{GivesUpAmong}
use Rattle.mpx_run.specs.Reports.{IsEvaluatedText}

-- a reader gives its text, where it is known what there is one byte more than a script may have, or all, and has the rest left
abbrev pub TakesInput : (there left : Option (List ℕ)) → List ℕ → Type 0
TakesInput there left text = IfSome there (λ all. text ≡ take (bytes_limit + 1) all) × Consumes there left text

-- a reader gives no more than that
abbrev pub TakesPart : (there left : Option (List ℕ)) → Type 0
TakesPart there left = (part : List ℕ) × (length part ≤ bytes_limit + 1) × Consumes there left part

-- how a fault of reading is told
abbrev pub told : ReadFault → RunError
told Fault.OutOfMemory = E.Memory
told (Fault.Reader reason) = E.Read reason

-- how it is told that a script can't be read: a refused script never as want of memory
abbrev pub script_told : ReadScriptError → RunError
script_told R.OutOfMemory = E.Memory
script_told (R.Refused refusal) = E.Script refusal

-- an error as text
abbrev pub run_error_text : RunError → List ℕ
run_error_text (E.Script refusal) = error_text refusal
run_error_text E.TooManyProcesses = codes "too many processes"
run_error_text E.Memory = codes "out of memory"
run_error_text (E.Read reason) = codes "read fault"
run_error_text (E.Write reason) = codes "write fault"
run_error_text E.GateGaveUp = codes "gate gave up"

-- how many statements the first n ranks have
abbrev pub statements_upto : List (List Statement) → ℕ → ℕ
statements_upto statements zero = 0
statements_upto statements (suc n) = statements_upto statements n + length (slice_index_or statements n [])

-- the line of a script that is read alone
abbrev pub check_text : ScriptView → List ℕ
check_text script = codes "ok " ++ number_text (pos script.ranks) ++ codes " ranks " ++ number_text (pos (statements_upto script.statements script.ranks)) ++ codes " statements\n"

-- what is said of the end and the text to which a run of a script comes by the job's own operations, with these options
abbrev pub OfRuns : Type 1
OfRuns = List Operation → Options → ScriptView → End → List ℕ → Type 0

-- to which end and text a script comes: a run, its evaluation, or the script alone
abbrev pub ComesTo : OfRuns → List Operation → Command → Options → ScriptView → End → List ℕ → Type 0
ComesTo Is ops Run options script end out = (script.ranks + options.relays ≤ 64) × Is ops options script end out
ComesTo Is ops Eval options script end out = IsEvaluatedText ops script end out
ComesTo Is ops Check options script end out = (end ≡ Finished) × (out ≡ check_text script)

-- a command is one to run, in threads
abbrev pub is_run_in_threads : Command → (threads : Bool) → Bool
is_run_in_threads Run threads = threads
is_run_in_threads Eval threads = false
is_run_in_threads Check threads = false

-- whether the job is a run in threads, the only one that may wait
abbrev pub is_in_threads : Job → Bool
is_in_threads job = is_run_in_threads job.command job.options.threads

-- a job with a script is refused for this: it is to be run and has too many processes, or memory is wanting
abbrev pub IsRefusedFor : Job → ScriptView → RunError → Type 0
IsRefusedFor job script E.TooManyProcesses = (job.command ≡ Run) × (64 < script.ranks + job.options.relays)
IsRefusedFor job script E.Memory = Unit {0}
IsRefusedFor job script other = ⊥

-- a text is out, and the answer is the end; where writing fails, a beginning of it is out
abbrev pub IsWritten : (old new : Option (List ℕ)) (out : List ℕ) (end : End) → Result End RunError → Type 0
IsWritten old new out end (Ok told) = (told ≡ end) × Appends old new out
IsWritten old new out end (Err (E.Write reason)) = (count : ℕ) × Appends old new (take count out)
IsWritten old new out end (Err other) = ⊥

-- a text is read as a script, with which the job comes to that end and text
pub record DoneTo (Is : OfRuns) (ops : List Operation) (job : Job) (text : List ℕ) (end : End) (out : List ℕ) : Type 0 where
  pub script : ScriptView
  pub read : reading ops text ≡ Ok script
  pub comes : ComesTo Is ops job.command job.options script end out

-- a text is read as a script that has too many ranks to be run with so many relays
abbrev pub HasTooMany : (ops : List Operation) (job : Job) (text : List ℕ) → Type 0
HasTooMany ops job text = (script : ScriptView) × (reading ops text ≡ Ok script) × (job.command ≡ Run) × (64 < script.ranks + job.options.relays)

-- what is out after a job with a text that no gate ends, by the answer: all that comes of the text or, where writing fails, a beginning of that
abbrev pub PrintsUngated : (Is : OfRuns) (ops : List Operation) (job : Job) (text : List ℕ) (old new : Option (List ℕ)) → Result End RunError → Type 0
PrintsUngated Is ops job text old new (Ok end) = (out : List ℕ) × DoneTo Is ops job text end out × Appends old new out
PrintsUngated Is ops job text old new (Err (E.Script refusal)) = (reading ops text ≡ Err refusal) × Keeps old new
PrintsUngated Is ops job text old new (Err E.TooManyProcesses) = HasTooMany ops job text × Keeps old new
PrintsUngated Is ops job text old new (Err E.Memory) = Keeps old new
PrintsUngated Is ops job text old new (Err (E.Read reason)) = ⊥
PrintsUngated Is ops job text old new (Err (E.Write reason)) = (end : End) × (out : List ℕ) × (count : ℕ) × DoneTo Is ops job text end out × Appends old new (take count out)
PrintsUngated Is ops job text old new (Err E.GateGaveUp) = ⊥

-- what a reader has left and what is out after a job that no gate ends, by the answer
abbrev pub RunsUngated : (Is : OfRuns) (ops : List Operation) (job : Job) (there left old new : Option (List ℕ)) → Result End RunError → Type 0
RunsUngated Is ops job there left old new (Err E.Memory) = TakesPart there left × Keeps old new
RunsUngated Is ops job there left old new (Err (E.Read reason)) = TakesPart there left × Keeps old new
RunsUngated Is ops job there left old new answer = (text : List ℕ) × TakesInput there left text × PrintsUngated Is ops job text old new answer

-- WHERE A GATE MAY END IT

-- a run in threads is asked for: a gate may end it
abbrev pub IsGated : Job → Type 0
IsGated job = (job.command ≡ Run) × (job.options.threads ≡ true)

-- the job runs the script in threads, and the gate gives up at a step of one of its processes
abbrev pub IsEndedByGate : (gives_up : ℕ → BusStep → ℕ → Type 0) (job : Job) → ScriptView → Type 0
IsEndedByGate gives_up job script = IsGated job × GivesUpAmong gives_up (script.ranks + job.options.relays) job.options.turns

-- the same of an answer: it is refused as every job is, or the gate gives up there
abbrev pub IsEndedFor : (gives_up : ℕ → BusStep → ℕ → Type 0) → Job → ScriptView → RunError → Type 0
IsEndedFor gives_up job script E.GateGaveUp = IsEndedByGate gives_up job script
IsEndedFor gives_up job script other = IsRefusedFor job script other

-- a text is read as a script that is run in threads, and the gate gives up at a step of one of its processes
pub record IsGivenUp (ops : List Operation) (gives_up : ℕ → BusStep → ℕ → Type 0) (job : Job) (text : List ℕ) : Type 0 where
  pub script : ScriptView
  pub read : reading ops text ≡ Ok script
  pub gated : IsGated job
  pub at : GivesUpAmong gives_up (script.ranks + job.options.relays) job.options.turns

-- what is out after a job with a text, by the answer, where the gate gives up there
abbrev pub Prints : (Is : OfRuns) (ops : List Operation) (gives_up : ℕ → BusStep → ℕ → Type 0) (job : Job) (text : List ℕ) (old new : Option (List ℕ)) → Result End RunError → Type 0
Prints Is ops gives_up job text old new (Err E.GateGaveUp) = IsGivenUp ops gives_up job text × Keeps old new
Prints Is ops gives_up job text old new answer = PrintsUngated Is ops job text old new answer

-- what a reader has left and what is out after a job, by the answer, where the gate gives up there
abbrev pub Runs : (Is : OfRuns) (ops : List Operation) (gives_up : ℕ → BusStep → ℕ → Type 0) (job : Job) (there left old new : Option (List ℕ)) → Result End RunError → Type 0
Runs Is ops gives_up job there left old new (Err E.GateGaveUp) = (text : List ℕ) × TakesInput there left text × IsGivenUp ops gives_up job text × Keeps old new
Runs Is ops gives_up job there left old new answer = RunsUngated Is ops job there left old new answer
