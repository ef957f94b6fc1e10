-- What `read_script` answers.
use Rattle.std.specs.Prelude.{◌≡◌, ℕ, Result, Ok, Err}
use Rattle.mpx_script.specs.ScriptView.{ScriptView}
use Rattle.mpx_script.specs.declared.faults.ScriptError.{ScriptError}
use Rattle.mpx_script.specs.declared.faults.LineError.{LineError}
use Rattle.mpx_script.specs.declared.faults.LineError.TheVariants.{Fault, OutOfMemory as NoMemory}
use Rattle.mpx_script.specs.declared.faults.ReadScriptError.{ReadScriptError}
use Rattle.mpx_script.specs.declared.faults.ReadScriptError.TheVariants.{Refused, OutOfMemory}

-- an answer is the reading, unless memory ran out
abbrev pub AnswersReading : Result ScriptView ReadScriptError → Result ScriptView ScriptError → Type 0
AnswersReading (Ok script) read = read ≡ Ok script
AnswersReading (Err (Refused e)) read = read ≡ Err e
AnswersReading (Err OutOfMemory) read = Unit {0}

-- the error of a line as that of the script
abbrev pub at_line : ℕ → LineError → ReadScriptError
at_line line (Fault what) = Refused (record { line = line; what = what })
at_line line NoMemory = OutOfMemory
