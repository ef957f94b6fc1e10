-- A node has no more results than posts.
use Rattle.std.specs.Prelude.{◌≤◌, Option, Some, None, length}
use Rattle.std.specs.Option.{option_map}
use Rattle.std.specs.BTreeMap.{get}
use Rattle.std.proofs.Common.{arith}
use Rattle.std.proofs.lemmas.Bool.Decides.{nat_tests}
use Rattle.mpx_name.specs.Order.{name_cmp}
use Rattle.mpx_name.specs.Name.{Name}
use Rattle.mpx_node.specs.declared.node.Node.{Node}
use Rattle.mpx_node.specs.declared.opened.Opened.{Opened}
use Rattle.mpx_node.specs.Opened.{opened_of}
use Rattle.mpx_node.specs.Nodes.{front_on, posted_on, results_by, posted_by}
use Rattle.mpx_node.specs.Shown.{node_of}
use Rattle.mpx_node.specs.laws.Gone.{length_after}

opened_bounded : (o : Option Opened) → length (results_by (option_map opened_of o)) ≤ posted_by (option_map opened_of o)
opened_bounded None = omega arith
opened_bounded (Some o) = let l = length_after o.gone o.results.items in grind (arith, nat_tests, o.counted, l)

pub node_bounded : (node : Node) (name : Name) → front_on (node_of node) name ≤ posted_on (node_of node) name
node_bounded node name = opened_bounded (get name_cmp node.opened name)
