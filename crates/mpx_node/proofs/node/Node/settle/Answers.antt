use Rattle.mpx_node.specs.Shown.{node_of}
use Rattle.mpx_node.proofs.node.Node.settle.Goals as goal

pub returns-clause-ok : goal.returns-clause-ok
returns-clause-ok g c = record { all = node_of c.harvest_all.new.self; harvests = c.in_ok-harvest_all.ensures.ok; drops = c.prune_to_floor.ensures }
