-- Which boards are given whole where a frame has a limit.
use Rattle.std.specs.Prelude.{ℕ, Bool, not, ◌&&◌, nat_le, length}
use Rattle.mpx_board.specs.Parts.{PartsView}
use Rattle.mpx_board.specs.Looks.{parts_of}
use Rattle.mpx_format.specs.declared.versions.Version.TheVariants.{Two}
use Rattle.mpx_format.specs.Contexts.{frame}
use Rattle.mpx_format.specs.Encoding.{is_too_long}
use Rattle.mpx_node.specs.declared.node.Node.{Node}

-- the maps of which a node's board is made
abbrev pub parts_on : Node → PartsView
parts_on node = parts_of node.board

-- it has a frame, of at most so many bytes
abbrev pub fits_in : (limit : ℕ) → PartsView → Bool
fits_in limit v = not (is_too_long v) && nat_le (length (frame.spelling (Two, v))) limit
