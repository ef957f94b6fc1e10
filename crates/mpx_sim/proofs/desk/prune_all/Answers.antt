use Rattle.std.proofs.Common.{refl}
use Rattle.mpx_node.specs.Shown.{node_of}
use Rattle.mpx_sim.specs.Keeping.{keeps_node_itself, keeps_node_then}
use Rattle.mpx_sim.specs.Turns.{Alone}
use Rattle.mpx_sim.proofs.desk.prune_all.Goals as goal

pub loop-name-init : goal.loop-name-init
loop-name-init c ops = keeps_node_itself Alone ops (node_of c.args.desk.now.host) (node_of c.args.desk.now.host) refl

pub loop-name-preserved : goal.loop-name-preserved
loop-name-preserved c ops = keeps_node_then Alone ops (node_of c.args.desk.now.host) (node_of c.loop-name.desk.host) (node_of c.prune_on-pruned.new.desk.host) (c.loop-name.invariant ops) (c.prune_on-pruned.ensures ops)

pub returns : goal.returns
returns c = c.loop-name.invariant
