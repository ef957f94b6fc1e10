-- The words of a run's options.
use Rattle.std.specs.Prelude.{ℕ, List, [], ◌∷◌, ◌++◌, ◌==◌, codes}
use Rattle.std.specs.List.{slice_split}

-- one word more, where it isn't empty
abbrev pub with_word : List (List ℕ) → List ℕ → List (List ℕ)
with_word words [] = words
with_word words (byte ∷ word) = words ++ (byte ∷ word) ∷ []

-- the same of each of these, in their order
abbrev pub with_words : List (List ℕ) → List (List ℕ) → List (List ℕ)
with_words words [] = words
with_words words (word ∷ more) = with_words (with_word words word) more

-- the program's name and its command's, and what stands between blanks
abbrev pub words_of : (options : List ℕ) → List (List ℕ)
words_of options = with_words (codes "gossipmpi" ∷ codes "run" ∷ []) (slice_split (λ byte. byte == 32) options)
