use Rattle.mpx_world.proofs.Sealing.{one_world}
use Rattle.mpx_world.proofs.laws.nodes_are_of_one_world.Goals as goal

pub returns : goal.returns
returns g c = one_world _ c.args.world.now.processes c.args.world.now.reached
