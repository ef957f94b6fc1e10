use Rattle.std.proofs.Common.{◌≡◌, length, map, string_bytes}
use Rattle.mpx_words.specs.Words.{complaint}
use Rattle.mpx_words.proofs.refusal.complaint.Given as goal

abbrev pub invariant-loop-rest : goal.invariant-loop-rest
invariant-loop-rest l = complaint (map string_bytes l.rest) ≡ complaint (map string_bytes l.words)

abbrev pub decreases-loop-rest : goal.decreases-loop-rest
decreases-loop-rest l = length l.rest
