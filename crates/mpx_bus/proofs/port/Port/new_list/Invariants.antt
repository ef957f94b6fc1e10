use Rattle.mpx_bus.specs.declared.act.Act.TheVariants as A
use Rattle.mpx_bus.proofs.port.Port.new_list.Given as goal

abbrev pub ghosts-acknowledged : goal.ghosts-acknowledged
ghosts-acknowledged a = record { act = A.Acknowledged a.board.now }
