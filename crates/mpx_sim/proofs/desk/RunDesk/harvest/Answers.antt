use Rattle.mpx_node.specs.Shown.{node_of}
use Rattle.mpx_sim.specs.Carrying.{harvests_none, harvests_then}
use Rattle.mpx_sim.proofs.desk.RunDesk.harvest.Goals as goal

pub loop-name-init : goal.loop-name-init
loop-name-init g c = harvests_none _ (node_of c.args.self.now.desk.host)

pub loop-name-preserved : goal.loop-name-preserved
loop-name-preserved g c = harvests_then _ (node_of c.args.self.now.desk.host) (node_of c.loop-name.self.1.0.host) (node_of c.harvest_all.new.desk.host) c.loop-name.invariant c.in_ok-harvest_all.ensures

pub returns : goal.returns
returns g c = c.loop-name.invariant
