use Rattle.mpx_shared.proofs.LawfulPorts.{held_new}
use Rattle.mpx_shared.proofs.held_port.HeldPort.new.Goals as goal

pub invariant_of-result : goal.invariant_of-result
invariant_of-result g c = (c.requires.me, held_new c.new.result.items c.args.port c.requires.port c.requires.opening c.requires.count c.requires.book)
