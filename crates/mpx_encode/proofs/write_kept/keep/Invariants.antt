use Rattle.mpx_board.specs.Looks.{parts_of}
use Rattle.mpx_format.specs.Kept.{AreKept}
use Rattle.mpx_encode.proofs.write_kept.keep.Given as goal

abbrev pub invariant-loop-entry : goal.invariant-loop-entry
invariant-loop-entry l = AreKept l.kept.of.items (parts_of l.fn.board).1
