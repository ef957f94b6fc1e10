use Rattle.mpx_bus.proofs.Answers.{goes_pop, passes_on, takes_in}
use Rattle.mpx_bus.proofs.port.Bus.pop.Goals as goal

pub returns-clause-port : goal.returns-clause-port
returns-clause-port g c = goes_pop _ _ _ c.pop_one.ensures.port c.pop_one.ensures.answer

pub returns-clause-board : goal.returns-clause-board
returns-clause-board g c = takes_in _ _ _ c.pop_one.ensures.port c.pop_one.ensures.answer

pub returns-clause-passes_on : goal.returns-clause-passes_on
returns-clause-passes_on g c = passes_on _ _ _ c.pop_one.ensures.answer
