use Rattle.std.proofs.Common.{◌≡◌, [], ◌∷◌, codes, map, string_bytes}
use Rattle.gossipmpi_c.specs.Options.{with_words}
use Rattle.gossipmpi_c.proofs.options.words_of.Given as goal

abbrev pub invariant-loop-part : goal.invariant-loop-part
invariant-loop-part l = map string_bytes l.words.items ≡ with_words (codes "gossipmpi" ∷ codes "run" ∷ []) (map (λ part. part.now) l.yielded)
