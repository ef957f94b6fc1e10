use Rattle.mpx_world.specs.Networks.{network_of, world_in}
use Rattle.mpx_world.specs.Worlds.{Forgets}
use Rattle.mpx_world.proofs.Steps.{sound_of}
use Rattle.mpx_world.proofs.Reached.{all_agree, are_least, are_permanent}
use Rattle.mpx_world.proofs.Opened.{are_members, are_communicators}
use Rattle.mpx_world.proofs.Retention.{retention}
use Rattle.mpx_world.proofs.Going.{well, across, held_on, later_on, all_nodes_agree, later_nodes_agree, results_kept, dead_stays_on}
use Rattle.mpx_world.proofs.Answering.{enough_in}
use Rattle.mpx_world.proofs.networks.networks_are_sound.Goals as goal

pub returns-clause-sound : goal.returns-clause-sound
returns-clause-sound c n s = sound_of (world_in n) (well n s).holds

pub returns-clause-agree : goal.returns-clause-agree
returns-clause-agree c n s = all_agree (world_in n) (well n s).holds

pub returns-clause-agree_across : goal.returns-clause-agree_across
returns-clause-agree_across c = across

pub returns-clause-least : goal.returns-clause-least
returns-clause-least c n s = are_least (world_in n) (well n s).holds

pub returns-clause-members : goal.returns-clause-members
returns-clause-members c n s = let x = well n s in are_members (world_in n) x.holds x.members

pub returns-clause-communicators : goal.returns-clause-communicators
returns-clause-communicators c n s = are_communicators (world_in n) (well n s).holds

pub returns-clause-permanent : goal.returns-clause-permanent
returns-clause-permanent c n nodes parts s on = are_permanent (world_in n) (world_in (network_of on)) (later_on n nodes parts on) Forgets on.later (held_on n nodes parts on) (well n s).holds

pub returns-clause-retained : goal.returns-clause-retained
returns-clause-retained c n s = let x = well n s in retention (world_in n) x.holds x.stores x.members

pub returns-clause-enough : goal.returns-clause-enough
returns-clause-enough c = enough_in

pub returns-clause-nodes : goal.returns-clause-nodes
returns-clause-nodes c = all_nodes_agree

pub returns-clause-later_nodes : goal.returns-clause-later_nodes
returns-clause-later_nodes c = later_nodes_agree

pub returns-clause-kept : goal.returns-clause-kept
returns-clause-kept c = results_kept

pub returns-clause-dead : goal.returns-clause-dead
returns-clause-dead c = dead_stays_on
