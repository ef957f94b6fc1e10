use Rattle.std.proofs.Common.{refl}
use Rattle.mpx_at_once.proofs.Tasks.{where_ok}
use Rattle.mpx_threads.proofs.run.planned_bus.Goals as goal

pub returns : goal.returns
returns g c = where_ok _ _ (λ r ready. (_, (ready, refl))) c.bus_by.result c.bus_by.ensures
