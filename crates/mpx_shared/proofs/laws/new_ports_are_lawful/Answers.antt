use Rattle.mpx_shared.proofs.LawfulPorts.{new_lawful, new_none}
use Rattle.mpx_shared.proofs.laws.new_ports_are_lawful.Goals as goal

pub returns-clause-lawful : goal.returns-clause-lawful
returns-clause-lawful c = new_lawful

pub returns-clause-none : goal.returns-clause-none
returns-clause-none c = new_none
