use Rattle.process_tests.proofs.port_fleets.meet_with_sum.Given as goal

abbrev pub ghosts-meet_all : goal.ghosts-meet_all
ghosts-meet_all a = record { setup = a.first.setup }
