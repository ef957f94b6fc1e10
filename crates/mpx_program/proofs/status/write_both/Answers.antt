use Rattle.mpx_program.proofs.Saying.{tells_both, tells_first}
use Rattle.mpx_program.proofs.status.write_both.Goals as goal

pub returns-in-Ok : goal.returns-in-Ok
returns-in-Ok g c = tells_both (g.W.Write.contents c.args.writer.now) (g.W.Write.contents c.write_bytes.new.writer) (g.W.Write.contents c.write_bytes-in-Ok.new.writer) c.args.first.now c.args.second.now c.write_bytes-in-Ok.result c.in-Ok.ensures.whole c.write_bytes-in-Ok.ensures.whole c.write_bytes-in-Ok.ensures.first

pub returns-in-Err : goal.returns-in-Err
returns-in-Err g c = tells_first (g.W.Write.contents c.args.writer.now) (g.W.Write.contents c.write_bytes.new.writer) c.args.first.now c.args.second.now c.in-Err.ensures.first.0 c.in-Err.ensures.first.1
