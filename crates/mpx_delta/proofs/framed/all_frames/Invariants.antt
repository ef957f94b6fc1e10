use Rattle.std.proofs.Common.{take}
use Rattle.mpx_delta.specs.Lacking.{AreSpelled}
use Rattle.mpx_delta.proofs.framed.all_frames.Given as goal

-- the frames so far are those of the boards so far
abbrev pub invariant-loop-board : goal.invariant-loop-board
invariant-loop-board l = AreSpelled l.made.items (take l.board-index l.boards)
