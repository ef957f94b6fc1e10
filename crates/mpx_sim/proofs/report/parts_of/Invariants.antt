use Rattle.std.proofs.Common.{◌≡◌, map}
use Rattle.mpx_node.specs.Shown.{node_of}
use Rattle.mpx_meaning.specs.Ends.{end_view}
use Rattle.mpx_rank.specs.Places.{end_of_rank}
use Rattle.mpx_sim.specs.Ends.{nodes_of}
use Rattle.mpx_sim.specs.Running.{ProcessView}
use Rattle.mpx_sim.specs.Shown.{process_of}
use Rattle.mpx_sim.proofs.report.parts_of.Given as goal

abbrev pub invariant-loop-process : goal.invariant-loop-process
invariant-loop-process l = record {
  ends : map end_view l.ends.items ≡ map (λ (v : ProcessView). end_of_rank v.rank) (map process_of l.yielded);
  nodes : map node_of l.nodes.items ≡ nodes_of (map process_of l.yielded);
}
