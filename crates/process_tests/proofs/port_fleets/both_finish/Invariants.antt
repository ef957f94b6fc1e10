use Rattle.process_tests.specs.Homes.{ranks_alone}
use Rattle.process_tests.proofs.port_fleets.both_finish.Given as goal

abbrev pub ghosts-new : goal.ghosts-new
ghosts-new g a = record { setup = ranks_alone a.ranks }
