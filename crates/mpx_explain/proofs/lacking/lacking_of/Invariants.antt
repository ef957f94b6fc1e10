use Rattle.std.proofs.Common.{◌≡◌, ◌++◌, drop}
use Rattle.std.specs.List.{flat_map}
use Rattle.mpx_node.specs.Shown.{node_of}
use Rattle.mpx_explain.specs.RunEnds.{lacked_of}
use Rattle.mpx_explain.proofs.lacking.lacking_of.Given as goal

abbrev pub invariant-loop-member : goal.invariant-loop-member
invariant-loop-member l = l.missing.items ++ flat_map (lacked_of l.run (node_of l.node) l.name l.call) (drop l.member-index l.members) ≡ flat_map (lacked_of l.run (node_of l.node) l.name l.call) l.members
