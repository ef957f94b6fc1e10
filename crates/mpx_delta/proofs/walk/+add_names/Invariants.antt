use Rattle.std.proofs.Common.{length}
use Rattle.mpx_delta.proofs.walk.+add_names.Given as goal

-- how many entries there are
abbrev pub decreases-add_names : goal.decreases-add_names
decreases-add_names l = length l.names.now
