-- The steps of a name, however they are kept.
use Rattle.std.specs.Prelude.{List, []}
use Rattle.mpx_name.specs.declared.names.KeptSteps.{KeptSteps}
use Rattle.mpx_name.specs.declared.names.KeptSteps.TheVariants.{None, One, Many}
use Rattle.mpx_name.specs.declared.steps.Step.{Step}

abbrev pub kept : KeptSteps → List Step
kept None = []
kept (One steps) = steps
kept (Many steps) = steps.items
