use Rattle.mpx_explain.specs.RunEnds.{earlier_text, earlier_view}
use Rattle.mpx_explain.proofs.FoundEnds.{flat_more}
use Rattle.mpx_explain.proofs.end_lines.push_lines.Goals as goal

pub loop-one-preserved : goal.loop-one-preserved
loop-one-preserved c = flat_more (earlier_text c.args.text.now c.args.places.now) (earlier_view c.args.text.now) c.args.earlier.now c.loop-one.one-index c.one-item.result c.loop-one.told.items c.push_line.new.told.items _ c.loop-one-test.true c.one-item.is c.in_ok-push_line.ensures c.loop-one.invariant
