use Rattle.mpx_post.proofs.Graphs.{AreEdges-from}
use Rattle.mpx_post.proofs.graph_fields.given_edges.Goals as goal

pub new-requires-2 : goal.new-requires-2
new-requires-2 c =
    let edges = rw c.in-Some.is at c.requires.edges in
    let few = rw c.in-Some.is at c.requires.few in
    rw (c.weighted-2.ensures, c.in_ok-list.ensures, c.weighted.ensures, c.edges.ensures) (AreEdges-from c.in-Some.graph edges few)
