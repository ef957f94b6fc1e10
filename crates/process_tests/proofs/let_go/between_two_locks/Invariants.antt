use Rattle.std.proofs.Common.{length}
use Rattle.mpx_shared.specs.LawfulPorts.{made_in}
use Rattle.process_tests.proofs.let_go.between_two_locks.Given as goal

-- the port's own queue, setup and process
abbrev pub ghosts-with_two_sums-L-PortLock : goal.ghosts-with_two_sums-L-PortLock
ghosts-with_two_sums-L-PortLock g a = record { all = 1; table = a.port.table; setup = a.port.setup; me = 0; opening = a.port.journal; before = 0 }

abbrev pub ghosts-with_two_sums-L-Ledger : goal.ghosts-with_two_sums-L-Ledger
ghosts-with_two_sums-L-Ledger g a = record { name = a.blank.name; parts = 1 }

-- the same of the port that has let a result go
abbrev pub ghosts-tells_again-L-PortLock : goal.ghosts-tells_again-L-PortLock
ghosts-tells_again-L-PortLock g a = record { all = 1; table = a.port.table; setup = a.port.setup; me = 0; opening = a.port.journal; before = length (made_in a.port) }

abbrev pub ghosts-tells_again-L-Ledger : goal.ghosts-tells_again-L-Ledger
ghosts-tells_again-L-Ledger g a = record { name = a.blank.name; parts = 1 }
