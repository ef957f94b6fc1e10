use Rattle.std.proofs.Common.{◌≡◌, ◌<◌, ℕ, map, take}
use Rattle.mpx_post.specs.Agreement.{post_at}
use Rattle.mpx_post.specs.Graphs.{AreNeighbours}
use Rattle.mpx_graph.specs.Graphs.{near_given}
use Rattle.mpx_graph.proofs.Made.{own_of}
use Rattle.mpx_graph.proofs.topologies.topology_adjacent.Given as goal

abbrev pub invariant-loop-rank : goal.invariant-loop-rank
invariant-loop-rank l = record {
  graph : l.ranks.items ≡ map near_given (take l.rank l.row);
  own : (k : ℕ) → k < l.rank → AreNeighbours (own_of (post_at l.row k));
}
