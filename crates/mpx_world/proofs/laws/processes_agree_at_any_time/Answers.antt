use Rattle.std.proofs.Common.{◌++◌}
use Rattle.mpx_world.specs.Worlds.{start, world_by}
use Rattle.mpx_world.specs.Events.{world_after}
use Rattle.mpx_world.proofs.Reached.{agree_across}
use Rattle.mpx_world.proofs.Whole.{well_after, well_by, later_after, later_by, may_early}
use Rattle.mpx_world.proofs.laws.processes_agree_at_any_time.Goals as goal

pub returns-clause-events : goal.returns-clause-events
returns-clause-events c ops ranks size es later =
    agree_across (world_after ops ranks size es) (world_after ops ranks size (es ++ later)) (later_after ops ranks size es later) (well_after ops ranks size es).holds (well_after ops ranks size (es ++ later)).holds

pub returns-clause-histories : goal.returns-clause-histories
returns-clause-histories c ops ranks size hs later m =
    agree_across (world_by ops ranks size hs) (world_by ops ranks size (hs ++ later)) (later_by ops ranks size hs later) (well_by ops ranks size hs (may_early hs later (start ops ranks size) m)).holds (well_by ops ranks size (hs ++ later) m).holds
