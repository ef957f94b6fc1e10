use Rattle.std.proofs.Common.{◌≡◌, ◌++◌, map, take}
use Rattle.mpx_node.specs.Shown.{node_of}
use Rattle.mpx_bus.specs.Ports.{node_in}
use Rattle.mpx_program.specs.Explained.{processes_of}
use Rattle.mpx_program.proofs.explaining.nodes_of.Given as goal

abbrev pub invariant-loop-node : goal.invariant-loop-node
invariant-loop-node l = processes_of l.nodes.items ≡ map node_of (take l.node-index l.simulated)

abbrev pub invariant-loop-port : goal.invariant-loop-port
invariant-loop-port l = processes_of l.nodes.items ≡ processes_of l.initial.nodes.items ++ map node_in (take l.port-index l.ports)
