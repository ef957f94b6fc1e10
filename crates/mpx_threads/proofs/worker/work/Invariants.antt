use Rattle.mpx_threads.proofs.worker.work.Given as goal

-- the port's own queue, setup and process, which has posted nothing
abbrev pub ghosts-work_as_rank-L-PortLock : goal.ghosts-work_as_rank-L-PortLock
ghosts-work_as_rank-L-PortLock g a = record { all = 1; table = a.port.table; setup = a.port.setup; me = a.me; opening = a.port.journal; before = 0 }

abbrev pub ghosts-work_as_rank-L-Ledger : goal.ghosts-work_as_rank-L-Ledger
ghosts-work_as_rank-L-Ledger g a = record { name = a.blank.name; parts = 1 }

abbrev pub ghosts-work_as_relay-L-PortLock : goal.ghosts-work_as_relay-L-PortLock
ghosts-work_as_relay-L-PortLock g a = record { all = 1; table = a.port.table; setup = a.port.setup; me = a.me; opening = a.port.journal; before = 0 }

abbrev pub ghosts-work_as_relay-L-Ledger : goal.ghosts-work_as_relay-L-Ledger
ghosts-work_as_relay-L-Ledger g a = record { name = a.blank.name; parts = 1 }
