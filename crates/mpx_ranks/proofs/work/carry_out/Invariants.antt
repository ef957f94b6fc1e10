use Rattle.mpx_ranks.proofs.work.carry_out.Given as goal

-- the port's own queue, setup and process
abbrev pub ghosts-work_as_rank : goal.ghosts-work_as_rank
ghosts-work_as_rank g a = record { table = a.port.table; setup = a.port.setup; me = a.me }

abbrev pub ghosts-work_as_relay : goal.ghosts-work_as_relay
ghosts-work_as_relay g a = record { table = a.port.table; setup = a.port.setup; me = a.me }
