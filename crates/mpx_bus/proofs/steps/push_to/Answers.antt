use Rattle.mpx_bus.proofs.Counted.{held_at}
use Rattle.mpx_bus.proofs.steps.push_to.Goals as goal

pub push_as-requires-clause-rule : goal.push_as-requires-clause-rule
push_as-requires-clause-rule g c = (c.requires.rule, held_at _ _)
