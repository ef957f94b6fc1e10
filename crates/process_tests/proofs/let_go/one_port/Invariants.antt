use Rattle.process_tests.specs.Homes.{ranks_alone}
use Rattle.process_tests.proofs.let_go.one_port.Given as goal

abbrev pub ghosts-new : goal.ghosts-new
ghosts-new g = record { setup = ranks_alone 1 }
