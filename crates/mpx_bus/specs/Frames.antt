-- Frames of boards.
use Rattle.std.specs.Prelude.{ℕ, List}
use Rattle.mpx_board.specs.Boards.{Look}
use Rattle.mpx_format.specs.Decoding.{decoded}
pub use Rattle.mpx_format.specs.Decoding.{shown}
pub use Rattle.mpx_delta.specs.Lacking.{AreSpelled}

-- the part that these bytes spell
abbrev pub part_of : List ℕ → Look
part_of bytes = shown (decoded bytes)
