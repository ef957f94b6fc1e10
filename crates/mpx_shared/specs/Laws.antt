-- What is so of all that a lawful port holds.
use Rattle.std.specs.Prelude.{◌≡◌, ℕ, List, Some, slice_get}
use Rattle.mpx_name.specs.Name.{Name}
use Rattle.mpx_birth.specs.Births.{BirthView}
use Rattle.mpx_value.specs.Histories.{answer_with, posts_on}
use Rattle.mpx_node.specs.declared.finished.Finished.{Finished}
use Rattle.mpx_world.specs.Worlds.{Happening, MayGoOn, births}
use Rattle.mpx_world.specs.Soundness.{IsValue}
use Rattle.mpx_bus.specs.declared.act.Setup.{Setup}
use Rattle.mpx_bus.specs.Acts.{start_of}
use Rattle.mpx_bus.specs.Rule.{BeginsPlan, planned_posts, world_of}
use Rattle.mpx_shared.specs.LawfulPorts.{planned_birth, planned_results}

-- the result is what a whole row gives the process, beside its own post, in a history that can happen and that begins the plan
pub record IsFinished (setup : Setup) (me : ℕ) (name : Name) (call : ℕ) (f : Finished) : Type 0 where
  pub happenings : List Happening
  pub may : MayGoOn (start_of setup) happenings
  pub begins : BeginsPlan setup (world_of setup happenings)
  pub value : IsValue (world_of setup happenings) me name call f

-- the result is the one that the plan's posts give the process, beside the post of its plan
pub record IsPlannedResult (setup : Setup) (me : ℕ) (name : Name) (call : ℕ) (f : Finished) : Type 0 where
  pub result : planned_results setup me name call ≡ Some (answer_with (planned_birth setup) f.outcome)
  pub mine : slice_get (posts_on name (planned_posts setup me)) call ≡ Some f.mine

-- the communicator came to be so, in a history that can happen and that begins the plan
pub record IsBirthByPlan (setup : Setup) (name : Name) (birth : BirthView) : Type 0 where
  pub happenings : List Happening
  pub may : MayGoOn (start_of setup) happenings
  pub begins : BeginsPlan setup (world_of setup happenings)
  pub born : births (world_of setup happenings) name ≡ Some birth
