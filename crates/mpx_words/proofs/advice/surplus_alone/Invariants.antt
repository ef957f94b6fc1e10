use Rattle.std.proofs.Common.{◌≡◌, length, map, string_bytes}
use Rattle.mpx_words.specs.Advice.{surplus_alone}
use Rattle.mpx_words.proofs.advice.surplus_alone.Given as goal

abbrev pub invariant-loop-rest : goal.invariant-loop-rest
invariant-loop-rest l = surplus_alone (map string_bytes l.rest) ≡ surplus_alone (map string_bytes l.words)

abbrev pub decreases-loop-rest : goal.decreases-loop-rest
decreases-loop-rest l = length l.rest
