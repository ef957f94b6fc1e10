-- What a process may store of what it has, and what others then lack of its board: as boards, and as their frames.
use Rattle.std.specs.Prelude.{◌≡◌, ◌≤◌, ℕ, List, [], ◌∷◌, All, map}
use Rattle.mpx_board.specs.declared.acks.Raised.{Raised}
use Rattle.mpx_board.specs.declared.board.Board.{Board}
use Rattle.mpx_board.specs.Boards.{Look, join_all}
use Rattle.mpx_board.specs.Looks.{look, parts_of}
use Rattle.mpx_board.specs.Raised.{Raises}
use Rattle.mpx_format.specs.declared.versions.Version.TheVariants.{Two}
use Rattle.mpx_format.specs.Decoding.{Spells}
use Rattle.mpx_format.specs.Encoding.{length_told}
use Rattle.mpx_delta.specs.Facts.{OnlyFactsOf}
use Rattle.mpx_delta.specs.Pieces.{NoNeighboursFit}
use Rattle.mpx_delta.specs.Digests.{Acknowledges, common_on, without}

-- the board `after` is the one on which the process has said what it has; the parts are those of that board, without the posts that all have
pub record IsLacking (me processes limit : ℕ) (board : Look) (said : Raised) (parts : List Board) : Type 0 where
  pub after : Look
  pub raises : Raises said board after
  pub own : Acknowledges me board after
  pub facts : All (λ part. OnlyFactsOf (look part) after) parts
  pub fit : All (λ part. length_told (parts_of part) ≤ limit) parts
  pub join : join_all (map look parts) ≡ without (common_on processes after) after
  pub few : NoNeighboursFit limit parts

-- one frame for each board, in the same order, with its bytes
abbrev pub AreSpelled : List (List ℕ) → List Board → Type 0
AreSpelled [] [] = Unit {0}
AreSpelled [] (board ∷ boards) = ⊥
AreSpelled (bytes ∷ frames) [] = ⊥
AreSpelled (bytes ∷ frames) (board ∷ boards) = Spells Two bytes (parts_of board) × AreSpelled frames boards

-- the frames of parts of a board, each with only its facts, that are together the board
pub record AreFramesOf (limit : ℕ) (board : Look) (frames : List (List ℕ)) : Type 0 where
  pub parts : List Board
  pub facts : All (λ part. OnlyFactsOf (look part) board) parts
  pub fit : All (λ part. length_told (parts_of part) ≤ limit) parts
  pub join : join_all (map look parts) ≡ board
  pub few : NoNeighboursFit limit parts
  pub spelled : AreSpelled frames parts

-- the frames of what others lack
pub record AreLacking (me processes limit : ℕ) (board : Look) (said : Raised) (frames : List (List ℕ)) : Type 0 where
  pub parts : List Board
  pub lacking : IsLacking me processes limit board said parts
  pub spelled : AreSpelled frames parts
