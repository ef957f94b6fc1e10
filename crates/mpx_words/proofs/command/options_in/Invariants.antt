use Rattle.std.proofs.Common.{◌≡◌, length, map, string_bytes}
use Rattle.mpx_words.specs.Words.{options_in}
use Rattle.mpx_words.proofs.command.options_in.Given as goal

abbrev pub invariant-loop-rest : goal.invariant-loop-rest
invariant-loop-rest l = options_in l.read (map string_bytes l.rest) ≡ options_in l.fn.options (map string_bytes l.fn.words)

abbrev pub decreases-loop-rest : goal.decreases-loop-rest
decreases-loop-rest l = length l.rest
