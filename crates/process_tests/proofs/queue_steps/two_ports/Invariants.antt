use Rattle.process_tests.specs.Homes.{ranks_alone}
use Rattle.process_tests.proofs.queue_steps.two_ports.Given as goal

abbrev pub ghosts-new : goal.ghosts-new
ghosts-new g = record { setup = ranks_alone 2 }
