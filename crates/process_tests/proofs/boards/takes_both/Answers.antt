use Rattle.mpx_board.specs.Looks.{parts_of}
use Rattle.process_tests.proofs.boards.takes_both.Goals as goal

pub take_rope-again-requires : goal.take_rope-again-requires
take_rope-again-requires c = record { spelled = (parts_of c.in_ok-part.part, rw c.requires at c.in_ok-part.ensures.found) }
