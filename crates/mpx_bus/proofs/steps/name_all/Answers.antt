use Rattle.mpx_bus.proofs.Makes.{names}
use Rattle.mpx_bus.proofs.steps.name_all.Goals as goal

pub another-requires-clause-rule : goal.another-requires-clause-rule
another-requires-clause-rule g c = names _ _ _ c.requires.first
