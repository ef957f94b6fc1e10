use Rattle.mpx_sim.proofs.Tried.{on_ok}
use Rattle.mpx_sim.proofs.desk.RunDeskCarrier.hear.Goals as goal

pub returns-clause-hears : goal.returns-clause-hears
returns-clause-hears g c = on_ok c.told.result (rw c.close.ensures.host c.in_ok-harvest_to.ensures.harvested)
