use Rattle.std.proofs.Common.{◌∙◌, ℕ, List, sym, ap, subst}
use Rattle.mpx_name.specs.Name.{Name}
use Rattle.mpx_board.specs.Looks.{look}
use Rattle.mpx_node.specs.Nodes.{NodeView}
use Rattle.mpx_bus.specs.declared.act.Setup.{Setup}
use Rattle.mpx_bus.specs.Ports.{PortView}
use Rattle.mpx_shared.specs.LawfulPorts.{MakesNoPost}
use Rattle.mpx_shared.specs.Gossip.{Pulls}
use Rattle.mpx_shared.proofs.LawfulPorts.{held_later, held_leaves}
use Rattle.mpx_shared.proofs.Gossiping.{pulls_then}
use Rattle.mpx_shared.proofs.held_port.HeldPort.pull.Goals as goal

pub pull_on-pull-requires-clause-list : goal.pull_on-pull-requires-clause-list
pull_on-pull-requires-clause-list g c = c.requires.list ∙ ap (λ (s : Setup). s.operations) (sym c.self.invariant.1.setup_is)

pub invariant_of-self : goal.invariant_of-self
invariant_of-self g c = (
  c.self.invariant.0,
  held_leaves c.leave_dead.new.contexts.items c.pull_on-pull.new.port (look c.board.result.now) (c.board.ensures ∙ ap (λ (n : NodeView). n.board) c.node-after.ensures.node) c.leave_dead.ensures
      (held_later c.self.inside.port c.pull_on-pull.new.port c.self.invariant.1 c.pull_on-pull.ensures.port),
)

pub returns-clause-port : goal.returns-clause-port
returns-clause-port g c = subst (λ (x : PortView × (ℕ × List Name)). MakesNoPost x.0 c.pull_on-pull.new.port) c.self.view_is c.pull_on-pull.ensures.port

pub returns-clause-then : goal.returns-clause-then
returns-clause-then g c =
    pulls_then c.self.inside.port c.pull_on-pull.new.port c.self.invariant.1 c.node-before.ensures.stood c.node-after.ensures.stood c.pull_on-pull.ensures.port c.pull_on-pull.result
    (subst (λ xs. Pulls c.pull_on-pull.result xs c.self.inside.port c.pull_on-pull.new.port) c.as_slice.ensures.value c.pull_on-pull.ensures.pulls)
