use Rattle.mpx_world.proofs.Going.{harvest_step}
use Rattle.programs.proofs.nodes.harvest.Goals as goal

pub returns-in_err-harvest : goal.returns-in_err-harvest
returns-in_err-harvest g c = harvest_step _ _ _ c.world.result c.harvest-2.result c.harvest-2.ensures

pub returns : goal.returns
returns g c = harvest_step _ _ _ c.world.result c.harvest-2.result c.harvest-2.ensures
