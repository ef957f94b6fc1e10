use Rattle.mpx_bus.proofs.Goes.{goes_then}
use Rattle.mpx_bus.proofs.port.Bus.push_own.Goals as goal

pub returns-clause-port : goal.returns-clause-port
returns-clause-port g c = goes_then c.args.port.now c.lists.new.self c.push_kept.new.port c.lists.ensures.port c.push_kept.ensures.port
