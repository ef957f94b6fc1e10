-- What a node says that it has, and what others may lack of its board.
use Rattle.std.specs.Prelude.{◌≡◌, ◌≤◌, ◌+◌, ℕ, List, All, map}
use Rattle.mpx_name.specs.Name.{Name}
use Rattle.mpx_board.specs.declared.acks.Raised.{Raised}
use Rattle.mpx_board.specs.declared.board.Board.{Board}
use Rattle.mpx_board.specs.Boards.{Front, Look, join_all, only}
use Rattle.mpx_board.specs.Looks.{look, parts_of}
use Rattle.mpx_board.specs.Raised.{Raises}
use Rattle.mpx_format.specs.Encoding.{length_told}
use Rattle.mpx_digest.specs.Digest.{IsDigest, Numbers}
use Rattle.mpx_delta.specs.Facts.{OnlyFactsOf}
use Rattle.mpx_delta.specs.Pieces.{NoNeighboursFit}
use Rattle.mpx_delta.specs.Lacking.{AreSpelled}
use Rattle.mpx_delta.specs.Digests.{common_on, without}
use Rattle.mpx_node.specs.Nodes.{NodeView, acknowledge, front_on}

-- it says that it has what the digest of its board says, and nothing else is new
pub record SaysWhatItHas (old new : NodeView) : Type 0 where
  pub numbers : Numbers
  pub digest : IsDigest numbers old.board
  pub learnt : new ≡ acknowledge numbers old
  pub own : (name : Name) (p : ℕ) → numbers name p ≤ new.board.acks new.me name p

-- the fact that it has harvested one more call
abbrev pub front_fact : Name → NodeView → Look
front_fact name node = only (Front name node.me (front_on node name + 1))

-- its board without the posts that all processes say that they have
abbrev pub lacking_on : NodeView → Look
lacking_on node = without (common_on node.processes node.board) node.board

-- what was made of the old node gives the new one once it is stored
pub record Stores (said : Raised) (old new : NodeView) : Type 0 where
  pub raises : Raises said old.board new.board
  pub rest : record old { board = new.board } ≡ new

-- the node `after` is the one that has said what it has; the parts are those of its board, without the posts that all have
pub record LacksOn (limit : ℕ) (node : NodeView) (said : Raised) (parts : List Board) : Type 0 where
  pub after : NodeView
  pub stores : Stores said node after
  pub own : SaysWhatItHas node after
  pub facts : All (λ part. OnlyFactsOf (look part) after.board) parts
  pub fit : All (λ part. length_told (parts_of part) ≤ limit) parts
  pub join : join_all (map look parts) ≡ lacking_on after
  pub few : NoNeighboursFit limit parts

-- the frames of such parts
pub record LackFrames (limit : ℕ) (node : NodeView) (said : Raised) (frames : List (List ℕ)) : Type 0 where
  pub parts : List Board
  pub lacks : LacksOn limit node said parts
  pub spelled : AreSpelled frames parts

-- frames of parts with only facts of the node's board, which are together what others lack of it
pub record AreLacked (limit : ℕ) (node : NodeView) (frames : List (List ℕ)) : Type 0 where
  pub parts : List Board
  pub facts : All (λ part. OnlyFactsOf (look part) node.board) parts
  pub fit : All (λ part. length_told (parts_of part) ≤ limit) parts
  pub join : join_all (map look parts) ≡ lacking_on node
  pub few : NoNeighboursFit limit parts
  pub spelled : AreSpelled frames parts
