use Rattle.mpx_bus.specs.declared.act.Act.TheVariants as A
use Rattle.mpx_bus.proofs.port.Port.prune.Given as goal

abbrev pub ghosts-pruned : goal.ghosts-pruned
ghosts-pruned a = record { act = A.Pruned a.name.now a.number }
