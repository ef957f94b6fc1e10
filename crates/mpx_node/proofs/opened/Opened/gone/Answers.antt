use Rattle.std.proofs.Common.{sym}
use Rattle.mpx_node.proofs.Gone.{counted_all}
use Rattle.mpx_node.proofs.opened.Opened.gone.Goals as goal

pub returns : goal.returns
returns c = sym (counted_all c.args.self.now.gone c.args.self.now.results.items)
