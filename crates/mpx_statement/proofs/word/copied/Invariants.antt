use Rattle.std.proofs.Common.{◌≡◌, take}
use Rattle.mpx_statement.proofs.word.copied.Given as goal

abbrev pub invariant-loop-word : goal.invariant-loop-word
invariant-loop-word l = l.made.items ≡ take l.word-index l.words
