-- Pieces of a board, and how they are put together.
use Rattle.std.specs.Prelude.{◌≡◌, ◌≤◌, ◌<◌, ℕ, Bool, true, not, nat_lt, ◌||◌, List, [], ◌∷◌, All}
use Rattle.std.specs.List.{list_all}
use Rattle.std.specs.FinMap.{is_sorted}
use Rattle.std.specs.declared.cmp.Ordering.{Ordering}
use Rattle.join_nest.specs.Seen.{seen}
use Rattle.mpx_board.specs.Boards.{Look, Fact, Has, Stands, IsBoardBelow}
use Rattle.mpx_board.specs.Parts.{EntryView, parts_joining}
use Rattle.mpx_board.specs.Tidy.{is_unknown, is_bare}
use Rattle.mpx_board.specs.Looks.{look, parts_of}
use Rattle.mpx_board.specs.declared.board.Board.{Board}
use Rattle.mpx_format.specs.Encoding.{length_told}
use Rattle.mpx_delta.specs.Facts.{OnlyFactsOf}

-- a frame of one piece has at most so many bytes
abbrev pub most_of_piece : ℕ
most_of_piece = 524288

-- all of these boards are below that one
abbrev pub AreBelow : List Board → Look → Type 0
AreBelow bs d = All (λ b. IsBoardBelow (look b) d) bs

-- and have only facts of it
abbrev pub HaveOnlyFactsOf : List Board → Look → Type 0
HaveOnlyFactsOf bs w = All (λ b. OnlyFactsOf (look b) w) bs

-- each has a frame of so many bytes at most
abbrev pub AllFit : ℕ → List Board → Type 0
AllFit limit bs = All (λ b. length_told (parts_of b) ≤ limit) bs

-- entries in the rising order of their keys, each of which passes the test
pub record IsEntryRun {K J V : Type 0} (R : K → K → Ordering) (view : J → V) (test : K × V → Bool) (es : List (K × J)) : Type 0 where
  pub rising : is_sorted R es ≡ true
  pub pass : list_all test (seen view es) ≡ true

-- the piece says just what S says of facts, in a short frame
pub record IsPiece (S : (Fact → Type 0) → Type 0) (piece : Board) : Type 0 where
  pub covers : (d : Look) → IsBoardBelow (look piece) d → S (Stands d)
  pub only : (w : Look) → S (Has w) → OnlyFactsOf (look piece) w
  pub fits : length_told (parts_of piece) ≤ most_of_piece

-- pieces that say just what S says were added to the others
pub record AddsPieces (S : (Fact → Type 0) → Type 0) (old new : List Board) : Type 0 where
  pub covers : (d : Look) → AreBelow new d → AreBelow old d × S (Stands d)
  pub only : (w : Look) → S (Has w) → HaveOnlyFactsOf old w → HaveOnlyFactsOf new w
  pub fits : AllFit most_of_piece old → AllFit most_of_piece new

-- these boards together say what those say
pub record SayTogether (limit : ℕ) (those these : List Board) : Type 0 where
  pub covers : (d : Look) → AreBelow these d → AreBelow those d
  pub only : (w : Look) → HaveOnlyFactsOf those w → HaveOnlyFactsOf these w
  pub fits : AllFit limit those → AllFit limit these

-- of no two neighbours among the boards does the join have a frame of at most so many bytes
abbrev pub NoNeighboursFit : ℕ → List Board → Type 0
NoNeighboursFit limit [] = Unit {0}
NoNeighboursFit limit (a ∷ []) = Unit {0}
NoNeighboursFit limit (a ∷ b ∷ bs) = (limit < length_told (parts_joining.join (parts_of a) (parts_of b))) × NoNeighboursFit limit (b ∷ bs)

-- something is said of the context beside the posts
abbrev pub has_head : EntryView → Bool
has_head e = not (is_unknown e.0) || (not (is_bare e.1.0) || nat_lt 0 e.1.1.dropped)
