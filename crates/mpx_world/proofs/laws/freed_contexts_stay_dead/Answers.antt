use Rattle.std.proofs.Common.{◌++◌}
use Rattle.mpx_world.specs.Worlds.{world_by}
use Rattle.mpx_world.specs.Events.{world_after}
use Rattle.mpx_world.proofs.Reached.{dead_stays}
use Rattle.mpx_world.proofs.Whole.{well_after, well_by, later_after, later_by}
use Rattle.mpx_world.proofs.laws.freed_contexts_stay_dead.Goals as goal

pub returns-clause-events : goal.returns-clause-events
returns-clause-events c ops ranks size es later =
    dead_stays (world_after ops ranks size es) (world_after ops ranks size (es ++ later)) (later_after ops ranks size es later) (well_after ops ranks size (es ++ later)).holds

pub returns-clause-histories : goal.returns-clause-histories
returns-clause-histories c ops ranks size hs later m =
    dead_stays (world_by ops ranks size hs) (world_by ops ranks size (hs ++ later)) (later_by ops ranks size hs later) (well_by ops ranks size (hs ++ later) m).holds
