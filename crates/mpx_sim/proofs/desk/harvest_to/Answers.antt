use Rattle.std.proofs.Common.{◌+◌, ◌-◌}
use Rattle.mpx_node.specs.Nodes.{front_on}
use Rattle.mpx_node.specs.Shown.{node_of}
use Rattle.mpx_sim.proofs.Harvests.{harvests_to}
use Rattle.mpx_sim.proofs.Tried.{on_each_ok}
use Rattle.mpx_sim.proofs.desk.harvest_to.Goals as goal

pub returns-clause-harvested : goal.returns-clause-harvested
returns-clause-harvested g c =
    let name = c.args.call.now.name in
    let old = node_of c.args.desk.now.host in
    on_each_ok c.harvest_to.result (λ is. harvests_to _ name (c.args.call.now.call + 1 - front_on old name) old (node_of c.harvest_to.new.self.host) is) c.harvest_to.ensures.ok
