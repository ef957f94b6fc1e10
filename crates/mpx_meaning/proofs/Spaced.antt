-- Texts with a space before each, one after the other.
use Rattle.std.proofs.Common.{◌≡◌, ◌+◌, ◌<◌, ◌≤◌, ◌++◌, ◌∷◌, ℕ, List, length, get_or, drop, ap, sym, ◌∙◌}
use Rattle.std.proofs.lemmas.List.{append-nil, append_assoc, at_drop_all, at_drop_more}
use Rattle.mpx_meaning.specs.Transcripts.{listed, spaced}

module _ {A : Type 0} (text : A → List ℕ) where
  -- before the first of them
  pub spaced_first : (all rest : List A) (first : A) (before had : List ℕ) → all ≡ first ∷ rest → had ≡ before ++ text first → had ++ spaced text (drop 0 rest) ≡ before ++ listed text all
  spaced_first all rest first before had is written = ap (λ t. t ++ spaced text rest) written ∙ append_assoc before (text first) (spaced text rest) ∙ ap (λ xs. before ++ listed text xs) (sym is)

  -- behind one more of them
  pub spaced_more : (xs : List A) (i : ℕ) (x : A) (had more whole : List ℕ) → i < length xs → x ≡ get_or xs i x → had ++ spaced text (drop i xs) ≡ whole → more ≡ had ++ 32 ∷ text x → more ++ spaced text (drop (i + 1) xs) ≡ whole
  spaced_more xs i x had more whole within is before written =
      ap (λ t. t ++ spaced text (drop (i + 1) xs)) written
      ∙ append_assoc had (32 ∷ text x) (spaced text (drop (i + 1) xs))
      ∙ ap (λ n. had ++ ((32 ∷ text n) ++ spaced text (drop (i + 1) xs))) is
      ∙ ap (λ t. had ++ t) (sym (at_drop_more (spaced text) xs i x within))
      ∙ before

  -- behind the last
  pub spaced_all : (xs : List A) (i : ℕ) (had whole : List ℕ) → length xs ≤ i → had ++ spaced text (drop i xs) ≡ whole → had ≡ whole
  spaced_all xs i had whole past before = sym (append-nil had) ∙ ap (λ t. had ++ t) (sym (at_drop_all (spaced text) xs i past)) ∙ before
