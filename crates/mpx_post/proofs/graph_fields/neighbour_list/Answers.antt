use Rattle.std.proofs.Common.{◌∙◌, pos}
use Rattle.mpx_post.specs.Drafts.{is_neighbour, neighbour_of}
use Rattle.mpx_post.proofs.Lists.{all_at, map_all, map_pushed}
use Rattle.mpx_post.proofs.graph_fields.neighbour_list.Goals as goal

pub given_neighbour-requires : goal.given_neighbour-requires
given_neighbour-requires c = all_at (is_neighbour 64 c.args.weighted) c.args.neighbours.now c.loop-neighbour.neighbour-index (record { rank = pos 0; weight = pos 0 }) c.loop-neighbour-test.true c.requires

pub loop-neighbour-preserved : goal.loop-neighbour-preserved
loop-neighbour-preserved c = map_pushed (neighbour_of c.args.weighted) c.args.neighbours.now c.loop-neighbour.neighbour-index (record { rank = pos 0; weight = pos 0 }) c.loop-neighbour-test.true _ _ _ c.loop-neighbour.invariant c.in_ok-push.ensures.items c.given_neighbour.ensures

pub returns : goal.returns
returns c = c.loop-neighbour.invariant ∙ map_all (neighbour_of c.args.weighted) c.args.neighbours.now c.loop-neighbour.neighbour-index c.loop-neighbour-test.false
