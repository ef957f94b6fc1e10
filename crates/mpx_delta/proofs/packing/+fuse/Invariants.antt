use Rattle.std.proofs.Common.{length}
use Rattle.mpx_delta.proofs.packing.+fuse.Given as goal

-- how many boards there are
abbrev pub decreases-fuse : goal.decreases-fuse
decreases-fuse l = length l.made.now.items
