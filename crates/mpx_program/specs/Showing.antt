-- How a run is shown.
use Rattle.std.specs.Prelude.{Bool, true, false}
use Rattle.mpx_program.specs.declared.seen.Seen.{Seen}
use Rattle.mpx_program.specs.declared.seen.Seen.TheVariants.{Lines, Rows, Progress}

-- each event in a line
abbrev pub shows_lines : {C S : Type 0} → Seen C S → Bool
shows_lines (Lines trace) = true
shows_lines (Rows table) = false
shows_lines (Progress far) = false

-- each turn in a row
abbrev pub shows_rows : {C S : Type 0} → Seen C S → Bool
shows_rows (Lines trace) = false
shows_rows (Rows table) = true
shows_rows (Progress far) = false

-- what it is shown on
abbrev pub shown_on : {C S : Type 0} → Seen C S → S
shown_on (Lines trace) = trace.out
shown_on (Rows table) = table.out
shown_on (Progress far) = far.out
