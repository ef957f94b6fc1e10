use Rattle.std.proofs.Common.{◌∙◌, ap}
use Rattle.mpx_group.specs.Group.{has_twice}
use Rattle.mpx_birth.proofs.Below.{upto-distinct}
use Rattle.mpx_birth.proofs.birth.Birth.world.Goals as goal

pub of_members-requires-clause-distinct : goal.of_members-requires-clause-distinct
of_members-requires-clause-distinct c = ap has_twice c.loop-rank.invariant.members ∙ upto-distinct c.loop-rank.rank
