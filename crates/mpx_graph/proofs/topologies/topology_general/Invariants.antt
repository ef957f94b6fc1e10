use Rattle.std.proofs.Common.{◌≡◌, ◌<◌, ℕ, vec_len, take, length, get_or}
use Rattle.mpx_birth.specs.Topologies.{nobody}
use Rattle.mpx_post.specs.Agreement.{post_at}
use Rattle.mpx_post.specs.Graphs.{AreEdges}
use Rattle.mpx_graph.specs.Graphs.{all_edges, graph_among}
use Rattle.mpx_graph.proofs.Made.{given_of}
use Rattle.mpx_graph.proofs.topologies.topology_general.Given as goal

abbrev pub invariant-loop-rank : goal.invariant-loop-rank
invariant-loop-rank l = record {
  long : vec_len l.ranks ≡ l._rank;
  none : (k : ℕ) → k < l._rank → get_or l.ranks.items k nobody ≡ nobody;
}

abbrev pub invariant-loop-rank-2 : goal.invariant-loop-rank-2
invariant-loop-rank-2 l = record {
  long : vec_len l.ranks ≡ length l.row;
  graph : l.ranks.items ≡ graph_among (length l.row) (all_edges (take l.rank l.row));
  given : (k : ℕ) → k < l.rank → AreEdges (given_of (post_at l.row k));
}
