use mir.Syntax.{w128}
use Rattle.std.proofs.Common.{inr}
use Rattle.std.proofs.lemmas.Int.{to_z-of_z}
use Rattle.mpx_comm.specs.Lines.{create_group}
use Rattle.mpx_comm.specs.Calls.{Asks}
use Rattle.mpx_request.proofs.Harvesting.{by_first}
use Rattle.mpx_comm.proofs.Posting.{asks_by_row}
use Rattle.mpx_comm.proofs.desk.Desk.start_create_group.Goals as goal

pub returns-in-Ok-clause-asks : goal.returns-in-Ok-clause-asks
returns-in-Ok-clause-asks g c =
    let opened = g.H.Host.node c.open_gathering.new.self.host in
    let new = g.H.Host.node c.post_on.new.self.host in
    let asks = asks_by_row _ c.in-Ok.gathering.name c.create_group-draft.result create_group c.post_on.result opened new c.open_gathering.new.self.requests.keys c.args.self.now.requests.keys c.post_on.new.self.requests.keys c.create_group-draft.ensures c.open_gathering.ensures.requests c.post_on.ensures.asks in
    let opens = rw (to_z-of_z w128 c.args.tag c.ranges.tag) at c.in-Ok.ensures.opens in
    let by = by_first g.H.Host.goes_by c.args.self.now.host c.open_gathering.new.self.host _ (λ ops. Asks ops c.in-Ok.gathering.name create_group c.post_on.result opened new c.args.self.now.requests.keys c.post_on.new.self.requests.keys)
    (g.met.H.Host.stays_by _ _ 0 c.open_gathering.ensures.no_turn) asks in
    inr (c.in-Ok.gathering.name, c.open_gathering.new.self.host, opens, c.open_gathering.ensures.no_turn, by)

pub returns-in-Ok-clause-no_turn : goal.returns-in-Ok-clause-no_turn
returns-in-Ok-clause-no_turn g c = g.met.H.Host.turns_more c.args.self.now.host c.open_gathering.new.self.host c.post_on.new.self.host 0 0 c.open_gathering.ensures.no_turn c.post_on.ensures.no_turn
