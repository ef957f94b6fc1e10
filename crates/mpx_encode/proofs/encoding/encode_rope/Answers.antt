use Rattle.mpx_board.specs.Looks.{parts_of}
use Rattle.mpx_format.proofs.Pieces.{nothing_kept}
use Rattle.mpx_encode.proofs.encoding.encode_rope.Goals as goal

pub encode_over-requires : goal.encode_over-requires
encode_over-requires c = nothing_kept c.new-2.result.of.items (parts_of c.args.board.now).1 c.new-2.ensures
