use Rattle.mpx_bus.specs.declared.act.Act.TheVariants as A
use Rattle.mpx_bus.proofs.port.Port.open_gathering.Given as goal

abbrev pub ghosts-gathered : goal.ghosts-gathered
ghosts-gathered a = record { act = A.Gathered a.parent.now a.tag a.ranks.now }
