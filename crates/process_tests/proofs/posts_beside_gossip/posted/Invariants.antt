use Rattle.process_tests.proofs.posts_beside_gossip.posted.Given as goal

-- the port's own queue and setup
abbrev pub ghosts-work-L-PortLock : goal.ghosts-work-L-PortLock
ghosts-work-L-PortLock g a = record { all = 1; table = a.port.table; setup = a.port.setup; me = 0; opening = a.port.journal; before = 0 }

abbrev pub ghosts-work-L-Ledger : goal.ghosts-work-L-Ledger
ghosts-work-L-Ledger g a = record { name = a.blank.name; parts = 1 }
