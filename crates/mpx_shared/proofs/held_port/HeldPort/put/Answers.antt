use Rattle.std.proofs.Common.{ℕ, List, subst}
use Rattle.mpx_name.specs.Name.{Name}
use Rattle.mpx_bus.specs.Ports.{PortView}
use Rattle.mpx_shared.specs.LawfulPorts.{MakesNoPost}
use Rattle.mpx_shared.specs.Gossip.{frame_limit}
use Rattle.mpx_shared.proofs.LawfulPorts.{held_later, no_post_put}
use Rattle.mpx_shared.proofs.Gossiping.{puts_as, puts_then}
use Rattle.mpx_shared.proofs.held_port.HeldPort.put.Goals as goal

pub invariant_of-self : goal.invariant_of-self
invariant_of-self g c =
    (c.self.invariant.0, held_later c.self.inside.port c.push_own-put.new.port c.self.invariant.1 (no_post_put frame_limit c.push_own-put.result c.self.inside.port c.push_own-put.new.port c.push_own-put.ensures.port c.push_own-put.ensures.next c.push_own-put.ensures.err))

pub returns-clause-port : goal.returns-clause-port
returns-clause-port g c =
    subst (λ (x : PortView × (ℕ × List Name)). MakesNoPost x.0 c.push_own-put.new.port) c.self.view_is (no_post_put frame_limit c.push_own-put.result c.self.inside.port c.push_own-put.new.port c.push_own-put.ensures.port c.push_own-put.ensures.next c.push_own-put.ensures.err)

pub returns-clause-then : goal.returns-clause-then
returns-clause-then g c =
    puts_then c.self.inside.port c.push_own-put.new.port c.self.invariant.1 c.node-before.ensures.stood c.node-after.ensures.stood
    (no_post_put frame_limit c.push_own-put.result c.self.inside.port c.push_own-put.new.port c.push_own-put.ensures.port c.push_own-put.ensures.next c.push_own-put.ensures.err) c.push_own-put.result
    (puts_as c.push_own-put.result c.self.inside.port c.push_own-put.new.port c.push_own-put.ensures.next c.push_own-put.ensures.err c.push_own-put.ensures.memory)
