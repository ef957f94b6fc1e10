use Rattle.std.proofs.Common.{◌++◌}
use Rattle.mpx_world.specs.Worlds.{start, world_by}
use Rattle.mpx_world.proofs.Covering.{common_covers, common_each, own_covers}
use Rattle.mpx_world.proofs.Later.{later_goes_on}
use Rattle.mpx_world.proofs.Whole.{well_by, later_by, may_early}
use Rattle.mpx_world.proofs.laws.what_all_acknowledge_all_have.Goals as goal

pub returns-clause-own : goal.returns-clause-own
returns-clause-own c ops ranks size hs later m =
    own_covers (world_by ops ranks size hs) (world_by ops ranks size (hs ++ later)) (well_by ops ranks size hs (may_early hs later (start ops ranks size) m)).holds (well_by ops ranks size (hs ++ later) m).holds (later_by ops ranks size hs later)

pub returns-clause-covers : goal.returns-clause-covers
returns-clause-covers c ops ranks size hs later m = common_covers (world_by ops ranks size hs) (world_by ops ranks size (hs ++ later)) (returns-clause-own c ops ranks size hs later m)

pub returns-clause-common : goal.returns-clause-common
returns-clause-common c = common_each

pub returns-clause-processes : goal.returns-clause-processes
returns-clause-processes c ops ranks size hs p = ((later_goes_on hs (start ops ranks size)).kept p).processes_kept
