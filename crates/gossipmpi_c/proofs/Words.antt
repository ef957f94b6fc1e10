-- Words behind words.
use Rattle.std.proofs.Common.{◌≡◌, ℕ, List, [], ◌∷◌, ◌++◌, refl}
use Rattle.gossipmpi_c.specs.Options.{with_word, with_words}

-- the last word is added last
pub with_words-push : (words more : List (List ℕ)) (word : List ℕ) → with_words words (more ++ word ∷ []) ≡ with_word (with_words words more) word
with_words-push words [] word = refl
with_words-push words (first ∷ more) word = with_words-push (with_word words first) more word
