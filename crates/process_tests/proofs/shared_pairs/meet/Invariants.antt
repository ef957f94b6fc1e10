use Rattle.process_tests.proofs.shared_pairs.meet.Given as goal

-- each port's own queue, setup and process
abbrev pub ghosts-share_two-M-PortLock : goal.ghosts-share_two-M-PortLock
ghosts-share_two-M-PortLock g a = record { all = 1; table = a.first.0.table; setup = a.first.0.setup; me = 0; opening = a.first.0.journal; before = 0 }

abbrev pub ghosts-share_two-M-Ledger : goal.ghosts-share_two-M-Ledger
ghosts-share_two-M-Ledger g a = record { name = a.first.1.name; parts = 1 }

abbrev pub ghosts-share_two-N-PortLock : goal.ghosts-share_two-N-PortLock
ghosts-share_two-N-PortLock g a = record { all = 1; table = a.second.0.table; setup = a.second.0.setup; me = 1; opening = a.second.0.journal; before = 0 }

abbrev pub ghosts-share_two-N-Ledger : goal.ghosts-share_two-N-Ledger
ghosts-share_two-N-Ledger g a = record { name = a.second.1.name; parts = 1 }
