use Rattle.std.proofs.Common.{refl, arith}
use Rattle.mpx_board.specs.Looks.{parts_of}
use Rattle.mpx_node.proofs.Parts.{not_beyond}
use Rattle.mpx_node.proofs.part.whole_part.Goals as goal

pub returns-then-min-frame_len-clause-refused : goal.returns-then-min-frame_len-clause-refused
returns-then-min-frame_len-clause-refused c =
    let beyond = not_beyond c.args.limit (parts_of c.args.board.now) (omega (arith, c.if-min-frame_len.true, c.min.ensures, c.frame_len.ensures)) in
    (λ is. beyond, λ is. refl)
