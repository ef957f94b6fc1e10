use Rattle.std.proofs.Common.{◌+◌, ◌-◌, map}
use Rattle.mpx_num.specs.Own.{operation_of}
use Rattle.mpx_node.specs.Nodes.{front_on}
use Rattle.mpx_node.specs.Shown.{node_of}
use Rattle.mpx_node.proofs.Harvested.{OnTheWay}
use Rattle.mpx_node.proofs.node.Node.harvest_to.Given as goal

abbrev pub invariant-loop-alloc : goal.invariant-loop-alloc
invariant-loop-alloc g l =
    OnTheWay (map (λ b. let o = goal.OwnOp-dyn g (b.vtable, b.value) in operation_of (o.word_bytes b.value) (o.fits_type b.value) (o.combination b.value)) l.ops.list.items) l.name l.call (node_of l.initial.self) (node_of l.self)

abbrev pub decreases-loop-alloc : goal.decreases-loop-alloc
decreases-loop-alloc g l = l.call + 1 - front_on (node_of l.self) l.name
