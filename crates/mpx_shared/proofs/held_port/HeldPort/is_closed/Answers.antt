use Rattle.std.proofs.Common.{◌∙◌, ap, arith}
use Rattle.mpx_node.specs.Nodes.{NodeView, freed_on}
use Rattle.mpx_shared.proofs.LawfulPorts.{lawful_closed, lawful_of}
use Rattle.mpx_shared.proofs.held_port.HeldPort.is_closed.Goals as goal

pub returns-clause-then : goal.returns-clause-then
returns-clause-then g c =
    let d = g.L.PortLock in
    let port = c.self.inside.port in
    let lawful = lawful_of port c.self.invariant.1 c.node.ensures.stood in
    let same = c.audit.ensures.whole c.requires.whole in
    let counted = c.self.invariant.1.counted in
    record {
      port = port;
      lawful = lawful;
      gone_on = c.self.invariant.1.gone_on;
      counted = omega (arith, counted, same);
      told = c.has_freed.ensures ∙ ap (λ (n : NodeView). freed_on n c.args.name.now) c.node.ensures.node ∙ lawful_closed d.table d.setup d.me port c.args.name.now lawful;
    }
