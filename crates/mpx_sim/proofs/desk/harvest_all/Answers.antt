use Rattle.mpx_node.specs.Shown.{node_of}
use Rattle.mpx_sim.proofs.Harvests.{harvests_to}
use Rattle.mpx_sim.proofs.Tried.{on_each_ok}
use Rattle.mpx_sim.proofs.desk.harvest_all.Goals as goal

pub returns : goal.returns
returns g c = on_each_ok c.harvest_all.result (λ all. harvests_to _ c.args.name.now all.times (node_of c.args.desk.now.host) (node_of c.harvest_all.new.self.host) all.does) c.harvest_all.ensures.ok
