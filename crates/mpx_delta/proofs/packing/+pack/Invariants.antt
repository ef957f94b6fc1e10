use Rattle.std.proofs.Common.{length}
use Rattle.mpx_delta.proofs.packing.+pack.Given as goal

-- how many boards there are
abbrev pub decreases-pack : goal.decreases-pack
decreases-pack l = length l.boards.items
