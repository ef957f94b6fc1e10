use Rattle.std.proofs.Common.{◌∙◌, ap, drop}
use Rattle.std.proofs.lemmas.List.{drop-drop}
use Rattle.mpx_node.proofs.opened.drop_first.Goals as goal

pub loop-preserved : goal.loop-preserved
loop-preserved c = c.pop_front.ensures.rest ∙ ap (drop 1) c.loop.invariant ∙ drop-drop 1 c.loop.counter c.args.results.now.items
