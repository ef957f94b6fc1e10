use Rattle.mpx_rope.proofs.Weaves.{next_place, next_placed, next_written}
use Rattle.mpx_rope.proofs.rope_ref.write_woven.Goals as goal

pub write_piece-requires-clause-place : goal.write_piece-requires-clause-place
write_piece-requires-clause-place c = next_place c.args.own.now c.args.pieces.now c.loop-piece.piece-index c.piece-item.result c.loop-piece.from c.loop-piece-test.true c.piece-item.is c.loop-piece.invariant.placed

pub loop-piece-preserved : goal.loop-piece-preserved
loop-piece-preserved c =
    let own = c.args.own.now in
    let ss = c.args.pieces.now in
    let i = c.loop-piece.piece-index in
    let s = c.piece-item.result in
    let from = c.loop-piece.from in
    record {
      written = rw c.in_ok-from.ensures.place (next_written own ss i s from c.loop-piece-test.true c.piece-item.is c.loop-piece.invariant.placed c.loop-piece.bytes.items c.write_piece.new.bytes.items _ c.in_ok-from.ensures.bytes c.loop-piece.invariant.written);
      placed = rw c.in_ok-from.ensures.place (next_placed own ss i s from c.loop-piece-test.true c.piece-item.is c.loop-piece.invariant.placed);
    }
