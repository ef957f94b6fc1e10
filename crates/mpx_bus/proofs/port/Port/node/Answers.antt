use Rattle.std.proofs.Common.{sym, subst}
use Rattle.mpx_bus.specs.Rule.{IsPlanned, Stood}
use Rattle.mpx_bus.specs.Ports.{PortView}
use Rattle.mpx_bus.proofs.Ports.{port_stood}
use Rattle.mpx_bus.proofs.port.Port.node.Goals as goal

pub returns-clause-stood : goal.returns-clause-stood
returns-clause-stood c plan =
    subst (λ (b : PortView). Stood b.setup b.me b.journal) c.self.view_is
    (port_stood _ _ _ c.self.invariant.2 (subst (λ (b : PortView). IsPlanned b.setup b.me b.journal) (sym c.self.view_is) plan))
