use Rattle.std.proofs.Common.{◌≡◌, length, map, string_bytes}
use Rattle.mpx_words.specs.Advice.{foreign}
use Rattle.mpx_words.proofs.advice.foreign.Given as goal

abbrev pub invariant-loop-rest : goal.invariant-loop-rest
invariant-loop-rest l = foreign (map string_bytes l.rest) ≡ foreign (map string_bytes l.words)

abbrev pub decreases-loop-rest : goal.decreases-loop-rest
decreases-loop-rest l = length l.rest
