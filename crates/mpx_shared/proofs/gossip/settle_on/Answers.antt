use Rattle.mpx_shared.proofs.Gossiping.{done_then, settles_on}
use Rattle.mpx_shared.proofs.gossip.settle_on.Goals as goal

pub returns-clause-port : goal.returns-clause-port
returns-clause-port g c = done_then c.args.port.now c.harvest_on.new.port c.prune_on.new.port c.harvest_on.ensures.port c.prune_on.ensures.does

pub returns-clause-ok : goal.returns-clause-ok
returns-clause-ok g c = settles_on c.args.name.now c.args.port.now c.harvest_on.new.port c.prune_on.new.port c.harvest_on.ensures.port c.in_ok-harvest_on.ensures.ok c.prune_on.ensures
