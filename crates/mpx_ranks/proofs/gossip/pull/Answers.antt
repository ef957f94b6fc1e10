use Rattle.mpx_ranks.proofs.More.{does_pop}
use Rattle.mpx_ranks.proofs.Quiet.{heard_pop}
use Rattle.mpx_ranks.proofs.gossip.pull.Goals as goal

pub returns-clause-more : goal.returns-clause-more
returns-clause-more g c = does_pop c.pop.result c.args.port.now c.pop.new.port c.pop.ensures.answer

pub returns-clause-heard : goal.returns-clause-heard
returns-clause-heard g c = heard_pop c.pop.result c.args.port.now c.pop.new.port c.pop.ensures.port.same c.pop.ensures.answer
