use Rattle.mpx_world.proofs.Going.{post_step, harvest_step, harvested_step, gather_step, prune_step, take_step, forget_step, deltas_step, unchanged_step, part_given, parts_given, fewer_sent, further}
use Rattle.mpx_world.proofs.networks.networks_go_on.Goals as goal

pub returns-clause-post : goal.returns-clause-post
returns-clause-post c = post_step

pub returns-clause-harvest : goal.returns-clause-harvest
returns-clause-harvest c = harvest_step

pub returns-clause-harvest_to : goal.returns-clause-harvest_to
returns-clause-harvest_to c = harvested_step

pub returns-clause-open_gathering : goal.returns-clause-open_gathering
returns-clause-open_gathering c = gather_step

pub returns-clause-prune : goal.returns-clause-prune
returns-clause-prune c = prune_step

pub returns-clause-take : goal.returns-clause-take
returns-clause-take c = take_step

pub returns-clause-part : goal.returns-clause-part
returns-clause-part c = part_given

pub returns-clause-parts : goal.returns-clause-parts
returns-clause-parts c = parts_given

pub returns-clause-deltas : goal.returns-clause-deltas
returns-clause-deltas c = deltas_step

pub returns-clause-forget : goal.returns-clause-forget
returns-clause-forget c = forget_step

pub returns-clause-unchanged : goal.returns-clause-unchanged
returns-clause-unchanged c = unchanged_step

pub returns-clause-fewer : goal.returns-clause-fewer
returns-clause-fewer c = fewer_sent

pub returns-clause-further : goal.returns-clause-further
returns-clause-further c = further
