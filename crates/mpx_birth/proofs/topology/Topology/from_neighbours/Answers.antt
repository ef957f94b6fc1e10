use Rattle.mpx_birth.proofs.Kept.{topology-kept}
use Rattle.mpx_birth.proofs.topology.Topology.from_neighbours.Goals as goal

pub invariant_of-result : goal.invariant_of-result
invariant_of-result c =
    rw c.in-Ok.ensures.ok (topology-kept (record { weighted = c.args.weighted; ranks = c.args.ranks.items }) c.requires)
