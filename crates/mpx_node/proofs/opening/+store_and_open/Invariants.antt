use Rattle.std.proofs.Common.{length}
use Rattle.mpx_node.proofs.opening.+store_and_open.Given as goal

abbrev pub decreases-store_and_open : goal.decreases-store_and_open
decreases-store_and_open l = length l.made.now
