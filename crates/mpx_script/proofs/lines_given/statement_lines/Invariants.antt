use Rattle.std.proofs.Common.{◌≡◌, ◌+◌, ◌≤◌, ◌++◌, length}
use Rattle.std.specs.Str.Lines.{lines}
use Rattle.mpx_script.specs.LinesGiven.{lines_given, naming, numbered_counting}
use Rattle.mpx_script.proofs.Given.{further}
use Rattle.mpx_script.proofs.lines_given.statement_lines.Given as goal

abbrev pub invariant-loop-rest : goal.invariant-loop-rest
invariant-loop-rest l = record {
  told : l.numbers.items ++ naming l.rank (further l.is_opened (numbered_counting (l.number + 1) (lines l.rest))) ≡ lines_given l.rank l.text;
  bound : l.number + length l.rest ≤ 1048577;
}

abbrev pub decreases-loop-rest : goal.decreases-loop-rest
decreases-loop-rest l = length l.rest
