use Rattle.mpx_board.specs.Looks.{parts_of}
use Rattle.mpx_board.proofs.Acknowledging.{look_replaced, replaced_tidy}
use Rattle.mpx_board.proofs.board.Board.with_acks.Goals as goal

pub returns : goal.returns
returns c = look_replaced (parts_of c.args.self) (parts_of c.args.other)

pub invariant_of-result : goal.invariant_of-result
invariant_of-result c = record { tidy = replaced_tidy (parts_of c.args.self) (parts_of c.args.other) c.args.self.tidy c.args.other.tidy }
