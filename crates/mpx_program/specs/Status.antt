-- The exit status of the program, and what it says on the standard error.
use Rattle.std.specs.Prelude.{ℕ, Bool, true, false, List, [], ◌++◌, codes, if◌then◌else◌, Result, Ok, Err}
use Rattle.std.specs.List.{flat_map}
use Rattle.std.specs.Fmt.{decimal}
use Rattle.clap.specs.declared.error.kind.ErrorKind.{ErrorKind}
use Rattle.clap.specs.declared.error.kind.ErrorKind.TheVariants as kind
use Rattle.mpx_run.specs.Texts.{run_error_text}
use Rattle.mpx_run.specs.declared.end.Cause.{Cause}
use Rattle.mpx_run.specs.declared.end.Cause.TheVariants.{InEveryRun, TurnsUsedUp, AllLost, Unknown}
use Rattle.mpx_run.specs.declared.end.End.{End}
use Rattle.mpx_run.specs.declared.end.End.TheVariants.{Finished, Waiting}
use Rattle.mpx_run.specs.declared.texts.RunError.{RunError}
use Rattle.mpx_run.specs.declared.texts.RunError.TheVariants.{Script, TooManyProcesses, Read, Write}

-- the status of a job that has come to an end
abbrev pub end_status : End → ℕ
end_status Finished = 0
end_status (Waiting ranks cause) = 3

-- the status of a job, whose script has calls to complain of or not; where memory is wanting, or a gate gave up, 4
abbrev pub status : (complains : Bool) → Result End RunError → ℕ
status complains (Ok end) = if complains then 6 else end_status end
status complains (Err (Script refusal)) = 2
status complains (Err TooManyProcesses) = 1
status complains (Err (Read reason)) = 5
status complains (Err (Write reason)) = 5
status complains (Err other) = 4

-- the status of a call whose words give no job
abbrev pub refusal_status : ErrorKind → ℕ
refusal_status kind.OutOfMemory = 4
refusal_status other = 1

-- the ranks, each after a space
abbrev pub waiting_ranks : List ℕ → List ℕ
waiting_ranks ranks = flat_map (λ rank. codes " " ++ decimal rank) ranks

-- the line of the ranks that wait
abbrev pub waiting_text : List ℕ → List ℕ
waiting_text ranks = codes "waiting:" ++ waiting_ranks ranks ++ codes "\n"

-- what is said of a job: nothing where it is finished
abbrev pub message : Result End RunError → List ℕ
message (Ok Finished) = []
message (Ok (Waiting ranks cause)) = codes "waiting:" ++ waiting_ranks ranks.items ++ codes "\n"
message (Err error) = run_error_text error ++ codes "\n"

-- MORE

-- what is told of a job that has come to an end, whose script has calls to complain of, where no more is asked for
abbrev pub advice : (complains explains : Bool) → Result End RunError → List ℕ
advice true false (Ok end) = codes "calls are refused or are faults: --explain names them\n"
advice complains explains answer = []

-- why ranks wait
abbrev pub cause_text : Cause → List ℕ
cause_text InEveryRun = codes "deadlock: these ranks wait whatever the network does\n"
cause_text (TurnsUsedUp turns) = codes "turns used up: " ++ decimal turns ++ codes "\n"
cause_text AllLost = codes "every frame was lost\n"
cause_text Unknown = codes "whether they wait in every run isn't known\n"

-- why a run ended
abbrev pub why : Result End RunError → List ℕ
why (Ok (Waiting ranks cause)) = cause_text cause
why answer = []

-- what is told behind the message where more is asked for: first why the run ended
abbrev pub explanation : (explains : Bool) → Result End RunError → (more : List ℕ) → List ℕ
explanation true answer more = why answer ++ more
explanation false answer more = []
