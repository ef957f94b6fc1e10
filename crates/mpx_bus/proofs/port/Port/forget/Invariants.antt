use Rattle.mpx_bus.specs.declared.act.Act.TheVariants as A
use Rattle.mpx_bus.proofs.port.Port.forget.Given as goal

abbrev pub ghosts-forgot : goal.ghosts-forgot
ghosts-forgot a = record { act = A.Forgot a.name.now a.below }
