use Rattle.mpx_run.proofs.Pieces.{appends_rest, within_rest}
use Rattle.mpx_run.proofs.streams.write_bytes.Goals as goal

pub loop-done-preserved : goal.loop-done-preserved
loop-done-preserved g c = record {
  out = appends_rest (g.W.Write.contents c.args.writer.now) (g.W.Write.contents c.loop-done.writer) (g.W.Write.contents c.write.new.self) c.args.bytes.now c.loop-done.done c.in-Ok.count c.loop-done.invariant.out c.in-Ok.ensures.bytes;
  within = within_rest c.args.bytes.now c.loop-done.done c.in-Ok.count c.loop-done.invariant.within c.in-Ok.ensures.bound;
}
