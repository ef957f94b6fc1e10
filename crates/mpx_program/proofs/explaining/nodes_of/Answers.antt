use Rattle.std.proofs.Common.{◌∙◌, ◌++◌, ap, map, take}
use Rattle.mpx_node.specs.Shown.{node_of}
use Rattle.mpx_bus.specs.Ports.{node_in}
use Rattle.mpx_program.proofs.Telling.{first_all}
use Rattle.mpx_program.proofs.explaining.nodes_of.Goals as goal

pub returns : goal.returns
returns c =
    let left = c.args.left.now in
    let simulated = c.of_ranks-simulated.result.now in
    let ports = c.of_ranks-ports.result.now in
    let of_nodes = c.loop-node.invariant ∙ first_all node_of left.nodes.items simulated c.args.ranks c.loop-node.node-index (c.of_ranks-simulated.ensures ∙ ap (take c.args.ranks) c.as_slice.ensures.value) c.loop-node-test.false in
    let of_ports = first_all node_in left.ports.items ports c.args.ranks c.loop-port.port-index (c.of_ranks-ports.ensures ∙ ap (take c.args.ranks) c.as_slice-2.ensures.value) c.loop-port-test.false in
    c.loop-port.invariant ∙ ap (λ ps. ps ++ map node_in (take c.loop-port.port-index ports)) of_nodes ∙ ap (λ ps. take c.args.ranks (map node_of left.nodes.items) ++ ps) of_ports
