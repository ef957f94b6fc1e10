use Rattle.mpx_world.proofs.Going.{begins}
use Rattle.mpx_world.proofs.networks.networks_begin.Goals as goal

pub returns : goal.returns
returns c = begins
