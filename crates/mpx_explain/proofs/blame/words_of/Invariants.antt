use Rattle.std.proofs.Common.{◌≡◌, ◌≤◌, length, map}
use Rattle.std.specs.List.{filter}
use Rattle.mpx_script.specs.Words.{has_bytes}
use Rattle.mpx_explain.specs.Blame.{words_told}
use Rattle.mpx_explain.proofs.blame.words_of.Given as goal

abbrev pub invariant-loop-part : goal.invariant-loop-part
invariant-loop-part l = record {
  few : length l.words.items ≤ 64;
  are : words_told l.words.items ≡ filter has_bytes (map (λ part. part.now) l.yielded);
}
