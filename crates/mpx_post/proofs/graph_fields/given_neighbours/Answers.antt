use Rattle.mpx_post.proofs.Graphs.{AreNeighbours-from}
use Rattle.mpx_post.proofs.graph_fields.given_neighbours.Goals as goal

pub new-requires-2 : goal.new-requires-2
new-requires-2 c =
    let edges = rw c.in-Some.is at c.requires.edges in
    let few = rw c.in-Some.is at c.requires.few in
    rw (c.weighted-3.ensures, c.new-near.ensures, c.in_ok-sources.ensures, c.in_ok-destinations.ensures, c.weighted.ensures, c.weighted-2.ensures, c.sources.ensures, c.destinations.ensures) (AreNeighbours-from c.in-Some.graph edges few)
