use Rattle.std.proofs.Common.{subst}
use Rattle.mpx_bus.specs.Answers.{PassesOn}
use Rattle.process_tests.proofs.ports.pops_and_pushes.Goals as goal

pub pushes_thrice-requires-clause-frame : goal.pushes_thrice-requires-clause-frame
pushes_thrice-requires-clause-frame g c = subst (λ r. PassesOn r c.pop.new.port) c.in-Took.is c.pop.ensures.passes_on
