use Rattle.std.proofs.Common.{◌≡◌, ◌++◌, take}
use Rattle.std.specs.List.{flat_map}
use Rattle.mpx_format.specs.Posts.{edge}
use Rattle.mpx_encode.proofs.write_makings.write_each_edge.Given as goal

abbrev pub invariant-loop-edge : goal.invariant-loop-edge
invariant-loop-edge l = l.out ≡ l.fn.out ++ flat_map (edge l.weighted).spelling (take l.edge-index l.list)
