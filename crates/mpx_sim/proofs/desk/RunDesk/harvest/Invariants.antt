use Rattle.std.proofs.Common.{map}
use Rattle.mpx_num.specs.Own.{operation_of}
use Rattle.mpx_node.specs.Shown.{node_of}
use Rattle.mpx_sim.specs.Carrying.{Harvests}
use Rattle.mpx_sim.proofs.desk.RunDesk.harvest.Given as goal

abbrev pub invariant-loop-name : goal.invariant-loop-name
invariant-loop-name g l = Harvests (map (λ b. let o = goal.OwnOp-dyn g (b.vtable, b.value) in operation_of (o.word_bytes b.value) (o.fits_type b.value) (o.combination b.value)) l.ops.list.items) (node_of l.fn.self.desk.host) (node_of l.self.1.0.host)
