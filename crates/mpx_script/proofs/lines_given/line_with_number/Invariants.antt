use Rattle.std.proofs.Common.{◌≡◌, [], get_or, length}
use Rattle.std.specs.Str.Lines.{lines}
use Rattle.mpx_script.specs.Words.{words}
use Rattle.mpx_script.specs.LinesGiven.{words_at}
use Rattle.mpx_script.proofs.lines_given.line_with_number.Given as goal

abbrev pub invariant-loop-rest : goal.invariant-loop-rest
invariant-loop-rest l = words_at l.text l.number ≡ words (get_or (lines l.rest) l.left [])

abbrev pub decreases-loop-rest : goal.decreases-loop-rest
decreases-loop-rest l = length l.rest
