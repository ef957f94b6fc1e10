use Rattle.std.proofs.Common.{◌∙◌, length, ap}
use Rattle.mpx_birth.specs.Topologies.{TopologyView}
use Rattle.mpx_value.proofs.Topologies.{general-ranks}
use Rattle.mpx_value.proofs.births.general_graph.Goals as goal

pub with_topology-requires : goal.with_topology-requires
with_topology-requires c = ap (λ (t : TopologyView). length t.ranks) c.in_ok-topology.ensures ∙ general-ranks c.args.row.now ∙ c.requires.members
