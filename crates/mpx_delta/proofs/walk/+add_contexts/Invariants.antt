use Rattle.std.proofs.Common.{length}
use Rattle.mpx_delta.proofs.walk.+add_contexts.Given as goal

-- how many entries there are
abbrev pub decreases-add_contexts : goal.decreases-add_contexts
decreases-add_contexts l = length l.contexts.now
