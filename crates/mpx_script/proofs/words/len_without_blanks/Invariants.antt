use Rattle.std.proofs.Common.{◌≡◌, ◌≤◌, take, length}
use Rattle.mpx_script.specs.Words.{words}
use Rattle.mpx_script.proofs.words.len_without_blanks.Given as goal

abbrev pub invariant-loop-len : goal.invariant-loop-len
invariant-loop-len l = record {
  words : words (take l.len l.line) ≡ words l.line;
  within : l.len ≤ length l.line;
}

abbrev pub decreases-loop-len : goal.decreases-loop-len
decreases-loop-len l = l.len
