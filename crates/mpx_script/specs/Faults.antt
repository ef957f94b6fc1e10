-- The refusals of a script, as text.
use Rattle.std.specs.Prelude.{ℕ, List, ◌++◌, codes}
use Rattle.std.specs.Fmt.{decimal}
use Rattle.mpx_script.specs.declared.faults.ScriptFault.{ScriptFault}
use Rattle.mpx_script.specs.declared.faults.ScriptFault.TheVariants.{NotAscii, TooLarge, NoRanksLine, RanksOutOfRange, RankOutOfRange, UnknownStatement, WrongWords, BadNumber, BadList, BadName, NameUnknown, NameTaken}
use Rattle.mpx_script.specs.declared.faults.ScriptError.{ScriptError}

abbrev pub script_fault_name : ScriptFault → List ℕ
script_fault_name NotAscii = codes "NotAscii"
script_fault_name TooLarge = codes "TooLarge"
script_fault_name NoRanksLine = codes "NoRanksLine"
script_fault_name RanksOutOfRange = codes "RanksOutOfRange"
script_fault_name RankOutOfRange = codes "RankOutOfRange"
script_fault_name UnknownStatement = codes "UnknownStatement"
script_fault_name WrongWords = codes "WrongWords"
script_fault_name BadNumber = codes "BadNumber"
script_fault_name BadList = codes "BadList"
script_fault_name BadName = codes "BadName"
script_fault_name NameUnknown = codes "NameUnknown"
script_fault_name NameTaken = codes "NameTaken"

-- the line of a refusal
abbrev pub error_text : ScriptError → List ℕ
error_text e = codes "script line " ++ decimal e.line ++ codes ": " ++ script_fault_name e.what
