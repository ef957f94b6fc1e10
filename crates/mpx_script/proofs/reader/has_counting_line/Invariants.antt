use Rattle.std.proofs.Common.{◌≡◌, length}
use Rattle.std.specs.Str.Lines.{lines}
use Rattle.mpx_script.specs.Words.{counting}
use Rattle.mpx_script.proofs.reader.has_counting_line.Given as goal

abbrev pub invariant-loop-rest : goal.invariant-loop-rest
invariant-loop-rest l = counting (lines l.text) ≡ counting (lines l.rest)

abbrev pub decreases-loop-rest : goal.decreases-loop-rest
decreases-loop-rest l = length l.rest
