-- The word of a refused line that is to blame: one of the line's words, as the script's reader has them.
use Rattle.std.specs.Prelude.{◌≡◌, ℕ, ◌-◌, ◌<◌, ◌≤◌, List, length, map, slice_get, Some, string_bytes}
use Rattle.std.specs.Borrow.{Bor}
use Rattle.mpx_script.specs.LinesGiven.{words_at}
use Rattle.mpx_explain.specs.declared.blame.Blamed.{Blamed}
use Rattle.mpx_explain.specs.declared.blame.Line.{Line}

-- it is the word with this place, from 1 on, among the first 64 of the line with this number
pub record IsBlamed (text : List ℕ) (number : ℕ) (b : Blamed) : Type 0 where
  pub first : 0 < b.place
  pub few : b.place ≤ 64
  pub word : slice_get (words_at text number) (b.place - 1) ≡ Some (string_bytes b.word)

-- words as text
abbrev pub words_told : List (Bor (List ℕ)) → List (List ℕ)
words_told words = map (λ (word : Bor (List ℕ)). word.now) words

-- these are the words of the line with this number, of which it has at most 64
pub record IsLineOf (text : List ℕ) (number : ℕ) (line : Line) : Type 0 where
  pub few : length line.words.items ≤ 64
  pub words : words_told line.words.items ≡ words_at text number
