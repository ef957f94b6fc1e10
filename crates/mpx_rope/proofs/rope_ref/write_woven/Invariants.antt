use Rattle.std.proofs.Common.{◌≡◌, ◌++◌, drop, length}
use Rattle.mpx_rope.specs.Ropes.{ArePlaced, woven}
use Rattle.mpx_rope.proofs.rope_ref.write_woven.Given as goal

abbrev pub invariant-loop-piece : goal.invariant-loop-piece
invariant-loop-piece l = record {
  written : l.bytes.items ++ woven l.from (drop l.from l.own) (drop l.piece-index l.pieces) ≡ l.fn.bytes.items ++ woven 0 l.own l.pieces;
  placed : ArePlaced l.from (length l.own) (drop l.piece-index l.pieces);
}
