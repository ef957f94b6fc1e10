use Rattle.std.proofs.Common.{[], ◌∷◌, ap, ◌∙◌, subst}
use Rattle.mpx_bus.specs.Acts.{IsAhead}
use Rattle.mpx_bus.specs.Views.{seen_as, standing}
use Rattle.mpx_bus.specs.Ports.{PortView, node_in}
use Rattle.mpx_bus.proofs.meeting.taken_in.Goals as goal

pub returns-clause-node : goal.returns-clause-node
returns-clause-node c = c.port.invariant.2.node_is ∙ ap node_in c.port.view_is

pub returns-clause-stands : goal.returns-clause-stands
returns-clause-stands c = c.port.invariant.2.stands ∙ ap (λ (b : PortView). standing b.setup (seen_as b.me b.published ∷ [])) c.port.view_is

pub returns-clause-ahead : goal.returns-clause-ahead
returns-clause-ahead c = subst (λ (b : PortView). IsAhead b.setup b.me b.published b.journal) c.port.view_is c.port.invariant.2.ahead
