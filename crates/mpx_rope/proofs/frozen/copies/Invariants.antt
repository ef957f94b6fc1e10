use Rattle.std.proofs.Common.{◌≡◌, take}
use Rattle.mpx_rope.proofs.frozen.copies.Given as goal

abbrev pub invariant-loop-piece : goal.invariant-loop-piece
invariant-loop-piece l = l.made.items ≡ take l.piece-index l.pieces
