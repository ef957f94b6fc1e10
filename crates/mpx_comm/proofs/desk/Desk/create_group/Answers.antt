use mir.Syntax.{w128}
use Rattle.std.proofs.Common.{inr}
use Rattle.std.proofs.lemmas.Int.{to_z-of_z}
use Rattle.mpx_comm.specs.Lines.{create_group}
use Rattle.mpx_comm.specs.Calls.{Calls}
use Rattle.mpx_request.proofs.Harvesting.{by_first}
use Rattle.mpx_comm.proofs.Posting.{calls_by_row}
use Rattle.mpx_comm.proofs.desk.Desk.create_group.Goals as goal

pub returns-in-Ok : goal.returns-in-Ok
returns-in-Ok g c =
    let calls = calls_by_row _ g.H.Host.node g.H.Host.turned g.H.Host.turn_refused c.in-Ok.gathering.name c.create_group-draft.result create_group c.args.turns c.call_on.result c.open_gathering.new.self.host c.call_on.new.self.host c.open_gathering.new.self.requests.keys c.args.self.now.requests.keys c.call_on.new.self.requests.keys c.create_group-draft.ensures c.open_gathering.ensures.requests c.call_on.ensures in
    let opens = rw (to_z-of_z w128 c.args.tag c.ranges.tag) at c.in-Ok.ensures.opens in
    let by = by_first g.H.Host.goes_by c.args.self.now.host c.open_gathering.new.self.host _ (λ ops. Calls ops g.H.Host.node g.H.Host.turned g.H.Host.turn_refused c.in-Ok.gathering.name create_group c.args.turns c.call_on.result c.open_gathering.new.self.host c.call_on.new.self.host c.args.self.now.requests.keys c.call_on.new.self.requests.keys)
    (g.met.H.Host.stays_by _ _ 0 c.open_gathering.ensures.no_turn) calls in
    inr (c.in-Ok.gathering.name, c.open_gathering.new.self.host, opens, c.open_gathering.ensures.no_turn, by)
