use Rattle.std.proofs.Common.{ap, sym, subst, ◌∙◌}
use Rattle.mpx_bus.specs.Ports.{PortView, node_in}
use Rattle.mpx_request.specs.Later.{Later}
use Rattle.mpx_ranks.proofs.Jobs.{has_answered, quits}
use Rattle.mpx_ranks.specs.Had.{GoesOn}
use Rattle.mpx_ranks.proofs.work.work_as_rank.Goals as goal

pub returns-clause-gave : goal.returns-clause-gave
returns-clause-gave g c =
    let before : PortView = c.new-desk.result.host.port in
    let returned : PortView = c.run-answer.new.desk.host.port in
    let last : PortView = c.into_port-port.result in
    let on : GoesOn returned last = subst (GoesOn returned) (sym c.into_port-port.ensures.port) (subst (λ (b : PortView). GoesOn b c.gossip_on.new.self.port) (ap (λ m. m.port) c.into_host-host.ensures) c.gossip_on.ensures.goes_on) in
    let later : Later (node_in returned) (node_in last) = subst (λ (b : PortView). Later (node_in returned) (node_in b)) (sym c.into_port-port.ensures.port) (subst (λ (b : PortView). Later (node_in b) (node_in c.gossip_on.new.self.port)) (ap (λ m. m.port) c.into_host-host.ensures) c.gossip_on.ensures.later) in
    has_answered (g.P.Program.gives c.args.program.now) g.L.Seat.setup g.L.Seat.table c.args.me c.args.ranks c.args.port before returned last c.world-world.result c.run-answer.result
    c.requires.port c.requires.count (ap (λ m. m.port) c.new-desk.ensures.host ∙ c.new-member.ensures) c.world-world.ensures c.run-answer.ensures on c.into_port-port.ensures.setup (c.into_port-port.ensures.me ∙ sym c.requires.me) later

pub quitter_of-requires : goal.quitter_of-requires
quitter_of-requires g c said =
    let before : PortView = c.new-desk.result.host.port in
    let after = c.run-answer.new.desk.host in
    (c.requires.quitters c.args.me).0
    (quits (g.P.Program.gives c.args.program.now) (g.P.Program.has_given_up c.args.program.now) g.L.Seat.setup g.L.Seat.table c.args.me c.args.ranks c.args.port before after.port c.world-world.result c.run-answer.result
    c.requires.port c.requires.count (ap (λ m. m.port) c.new-desk.ensures.host ∙ c.new-member.ensures) c.world-world.ensures c.run-answer.ensures after.setup_is (after.me_is ∙ sym c.requires.me) said)
