use Rattle.mpx_explain.proofs.FoundEnds.{tells_end}
use Rattle.mpx_explain.proofs.end_lines.explain_run.Goals as goal

pub returns : goal.returns
returns c = tells_end c.args.text.now c.args.run.now c.in_ok-end.end c.args.told.now.items c.push_end-pushed.new.told.items c.push_end-pushed.result c.in_ok-end.ensures c.push_end-pushed.ensures
