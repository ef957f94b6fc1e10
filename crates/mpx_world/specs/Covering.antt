-- What all processes say that they have, each of them has.
use Rattle.std.specs.Prelude.{ℕ, ◌<◌, ◌≤◌}
use Rattle.mpx_name.specs.Name.{Name}
use Rattle.mpx_board.specs.Boards.{Look}
use Rattle.mpx_delta.specs.Digests.{Covers, common_on}
use Rattle.mpx_world.specs.Worlds.{WorldView}

-- on each board what a process acknowledges covers that process's own board, then and in a later world
abbrev pub OwnCovers : (old new : WorldView) → Type 0
OwnCovers old new = (p q : ℕ) → Covers ((old.each p).node.board.acks q) (new.each q).node.board (old.each p).node.board

-- on each board what all processes acknowledge covers the board of every process, then and in a later world
abbrev pub CommonCovers : (old new : WorldView) → Type 0
CommonCovers old new = (p q : ℕ) → q < old.size → Covers (common_on old.size (old.each p).node.board) (new.each q).node.board (old.each p).node.board

-- what so many processes acknowledge on the board each of them does
abbrev pub IsCommon : (size : ℕ) → Look → Type 0
IsCommon size b = (q : ℕ) → q < size → (name : Name) (p : ℕ) → common_on size b name p ≤ b.acks q name p
