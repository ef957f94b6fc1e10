use Rattle.std.proofs.Common.{◌≡◌, length, map, string_bytes}
use Rattle.mpx_words.specs.Advice.{below_zero}
use Rattle.mpx_words.proofs.advice.below_zero.Given as goal

abbrev pub invariant-loop-rest : goal.invariant-loop-rest
invariant-loop-rest l = below_zero (map string_bytes l.rest) ≡ below_zero (map string_bytes l.words)

abbrev pub decreases-loop-rest : goal.decreases-loop-rest
decreases-loop-rest l = length l.rest
