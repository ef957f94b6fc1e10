use Rattle.std.proofs.Common.{◌≡◌, map, Some}
use Rattle.mpx_post.specs.Rows.{all_of}
use Rattle.mpx_script.specs.Graphs.{edge_named}
use Rattle.mpx_script.proofs.graphs.edges_in.Given as goal

abbrev pub invariant-loop-entry : goal.invariant-loop-entry
invariant-loop-entry l = all_of (edge_named l.weighted) (map (λ entry. entry.now) l.yielded) ≡ Some l.edges.items
