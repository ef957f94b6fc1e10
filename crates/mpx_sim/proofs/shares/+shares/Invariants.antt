use Rattle.std.proofs.Common.{◌+◌, ◌*◌}
use Rattle.mpx_sim.proofs.shares.+shares.Given as goal

abbrev pub decreases-share_out : goal.decreases-share_out
decreases-share_out g l = 4 * l.threads

abbrev pub decreases-both : goal.decreases-both
decreases-both g l = 4 * l.threads + 3

abbrev pub decreases-both-back : goal.decreases-both-back
decreases-both-back g l = 4 * l.threads + 1
