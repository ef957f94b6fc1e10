use Rattle.std.proofs.Common.{◌≡◌, false, length, map, string_bytes}
use Rattle.mpx_words.specs.Advice.{surplus_behind}
use Rattle.mpx_words.proofs.advice.surplus_behind.Given as goal

abbrev pub invariant-loop-rest : goal.invariant-loop-rest
invariant-loop-rest l = surplus_behind l.awaits (map string_bytes l.rest) ≡ surplus_behind false (map string_bytes l.words)

abbrev pub decreases-loop-rest : goal.decreases-loop-rest
decreases-loop-rest l = length l.rest
