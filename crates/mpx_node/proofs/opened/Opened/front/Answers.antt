use Rattle.std.proofs.Common.{sym, ◌∙◌}
use Rattle.mpx_node.proofs.Gone.{length_after}
use Rattle.mpx_node.proofs.opened.Opened.front.Goals as goal

pub returns : goal.returns
returns c = c.count.ensures ∙ sym (length_after c.args.self.now.gone c.args.self.now.results.items)
