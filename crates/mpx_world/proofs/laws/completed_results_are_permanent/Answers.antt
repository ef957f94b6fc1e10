use Rattle.std.proofs.Common.{◌++◌}
use Rattle.mpx_world.specs.declared.events.Event.TheVariants as E
use Rattle.mpx_world.specs.Worlds.{Forgets, start, world_by}
use Rattle.mpx_world.specs.Events.{world_after}
use Rattle.mpx_world.proofs.Reached.{are_permanent}
use Rattle.mpx_world.proofs.Whole.{well_after, well_by, held_after, held_by, later_after, later_by, may_early}
use Rattle.mpx_world.proofs.laws.completed_results_are_permanent.Goals as goal

pub returns-clause-events : goal.returns-clause-events
returns-clause-events c ops ranks size es later =
    are_permanent (world_after ops ranks size es) (world_after ops ranks size (es ++ later)) (later_after ops ranks size es later) E.Forget later (held_after ops ranks size es later) (well_after ops ranks size es).holds

pub returns-clause-histories : goal.returns-clause-histories
returns-clause-histories c ops ranks size hs later m =
    are_permanent (world_by ops ranks size hs) (world_by ops ranks size (hs ++ later)) (later_by ops ranks size hs later) Forgets later (held_by ops ranks size hs later) (well_by ops ranks size hs (may_early hs later (start ops ranks size) m)).holds
