use Rattle.mpx_bus.proofs.Counted.{held_at}
use Rattle.mpx_bus.proofs.steps.pop_to.Goals as goal

pub pop_as-requires-clause-rule : goal.pop_as-requires-clause-rule
pop_as-requires-clause-rule g c = (c.requires.rule, held_at _ _)
