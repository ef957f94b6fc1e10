use Rattle.mpx_world.proofs.Going.{post_step}
use Rattle.programs.proofs.nodes.post_number.Goals as goal

pub returns-in_err-post : goal.returns-in_err-post
returns-in_err-post g c = post_step _ _ _ c.world.result c.sum_draft.result c.post-2.result c.post-2.ensures

pub returns : goal.returns
returns g c = post_step _ _ _ c.world.result c.sum_draft.result c.post-2.result c.post-2.ensures
