use Rattle.std.proofs.Common.{List}
use Rattle.mpx_num.specs.declared.own.Operation.{Operation}
use Rattle.mpx_node.specs.Shown.{node_of}
use Rattle.mpx_sim.specs.Running.{KeepsNode}
use Rattle.mpx_sim.specs.Turns.{Alone}
use Rattle.mpx_sim.proofs.desk.prune_all.Given as goal

abbrev pub invariant-loop-name : goal.invariant-loop-name
invariant-loop-name l = (ops : List Operation) → KeepsNode Alone ops (node_of l.fn.desk.host) (node_of l.desk.host)
