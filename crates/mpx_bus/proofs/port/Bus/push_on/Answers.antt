use Rattle.mpx_bus.proofs.Answers.{goes_push}
use Rattle.mpx_bus.proofs.port.Bus.push_on.Goals as goal

pub returns-clause-port : goal.returns-clause-port
returns-clause-port g c = goes_push _ _ _ _ c.push.ensures.port c.push.ensures.answer
