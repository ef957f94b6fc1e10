use Rattle.mpx_bus.specs.declared.act.Act.TheVariants as A
use Rattle.crossbeam_queue.specs.Passes.{view}
use Rattle.mpx_bus.proofs.port.Bus.pop_one.Given as goal

-- all that the port did
abbrev pub ghosts-pop_to : goal.ghosts-pop_to
ghosts-pop_to g a = record { journal = view a.line.now }

abbrev pub ghosts-popped : goal.ghosts-popped
ghosts-popped g a = record { act = A.Popped a.frame.now }

abbrev pub ghosts-took : goal.ghosts-took
ghosts-took g a = record { act = A.Took a.frame.now }

abbrev pub ghosts-stopped : goal.ghosts-stopped
ghosts-stopped g a = record { act = A.StoppedTaking a.frame.now a.left.now }
