use Rattle.std.proofs.Common.{◌≡◌, map, take}
use Rattle.mpx_post.specs.Drafts.{neighbour_of}
use Rattle.mpx_post.proofs.graph_fields.neighbour_list.Given as goal

abbrev pub invariant-loop-neighbour : goal.invariant-loop-neighbour
invariant-loop-neighbour l = l.list.items ≡ map (neighbour_of l.weighted) (take l.neighbour-index l.neighbours)
