use Rattle.std.proofs.Common.{◌≡◌, length, map, string_bytes}
use Rattle.std.specs.Prelude.{bytes_eq}
use Rattle.std.specs.List.{list_any}
use Rattle.mpx_words.proofs.command.has.Given as goal

abbrev pub invariant-loop-rest : goal.invariant-loop-rest
invariant-loop-rest l = list_any (λ word. bytes_eq word l.flag) (map string_bytes l.rest) ≡ list_any (λ word. bytes_eq word l.flag) (map string_bytes l.words)

abbrev pub decreases-loop-rest : goal.decreases-loop-rest
decreases-loop-rest l = length l.rest
