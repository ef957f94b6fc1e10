use Rattle.std.proofs.Common.{length}
use Rattle.mpx_delta.proofs.walk.+add_acks.Given as goal

-- how many entries there are
abbrev pub decreases-add_acks : goal.decreases-add_acks
decreases-add_acks l = length l.processes.now
