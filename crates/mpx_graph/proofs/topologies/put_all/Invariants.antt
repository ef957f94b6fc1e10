use Rattle.std.proofs.Common.{◌≡◌, ◌++◌, List, vec_len, take}
use Rattle.mpx_birth.specs.declared.edges.Edge.{Edge}
use Rattle.mpx_graph.specs.Graphs.{graph_among}
use Rattle.mpx_graph.proofs.topologies.put_all.Given as goal

abbrev pub invariant-loop-edge : goal.invariant-loop-edge
invariant-loop-edge l = record {
  long : vec_len l.ranks ≡ vec_len l.initial.ranks;
  graph : (before : List Edge) → l.initial.ranks.items ≡ graph_among (vec_len l.initial.ranks) before → l.ranks.items ≡ graph_among (vec_len l.initial.ranks) (before ++ take l.edge-index l.edges);
}
