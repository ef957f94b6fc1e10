use Rattle.mpx_world.specs.Worlds.{world_by}
use Rattle.mpx_world.proofs.Later.{made_happens}
use Rattle.mpx_world.proofs.Reached.{all_agree}
use Rattle.mpx_world.proofs.Opened.{are_members, are_communicators}
use Rattle.mpx_world.proofs.Retention.{retention}
use Rattle.mpx_world.proofs.Whole.{well_by}
use Rattle.mpx_world.proofs.Progress.{enough_by}
use Rattle.mpx_world.proofs.laws.every_history_keeps_its_parts.Goals as goal

pub returns-clause-agree : goal.returns-clause-agree
returns-clause-agree c ops ranks size hs m = all_agree (world_by ops ranks size hs) (well_by ops ranks size hs m).holds

pub returns-clause-members : goal.returns-clause-members
returns-clause-members c ops ranks size hs m = let s = well_by ops ranks size hs m in are_members (world_by ops ranks size hs) s.holds s.members

pub returns-clause-communicators : goal.returns-clause-communicators
returns-clause-communicators c ops ranks size hs m = are_communicators (world_by ops ranks size hs) (well_by ops ranks size hs m).holds

pub returns-clause-retained : goal.returns-clause-retained
returns-clause-retained c ops ranks size hs m = let s = well_by ops ranks size hs m in retention (world_by ops ranks size hs) s.holds s.stores s.members

pub returns-clause-enough : goal.returns-clause-enough
returns-clause-enough c = enough_by

pub returns-clause-unposted : goal.returns-clause-unposted
returns-clause-unposted c = made_happens
