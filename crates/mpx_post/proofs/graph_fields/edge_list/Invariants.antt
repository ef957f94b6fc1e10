use Rattle.std.proofs.Common.{◌≡◌, map, take}
use Rattle.mpx_post.specs.Drafts.{edge_of}
use Rattle.mpx_post.proofs.graph_fields.edge_list.Given as goal

abbrev pub invariant-loop-edge : goal.invariant-loop-edge
invariant-loop-edge l = l.list.items ≡ map (edge_of l.weighted) (take l.edge-index l.edges)
