use Rattle.mpx_comm.proofs.Forgets.{least_at, posted_forgets, untouched}
use Rattle.mpx_comm.proofs.desk.Desk.forget_on.Goals as goal

pub returns-clause-forgets : goal.returns-clause-forgets
returns-clause-forgets g c =
    let least = least_at _ _ c.args.name.now _ _ c.least_open-below.result c.front.ensures c.as_slice.ensures.keys c.least_open-below.ensures in
    ((c.least_open-below.result, least, c.forget.ensures.forgets), c.forget.ensures.no_turn)

pub returns-clause-open : goal.returns-clause-open
returns-clause-open g c =
    let least = least_at _ _ c.args.name.now _ _ c.least_open-below.result c.front.ensures c.as_slice.ensures.keys c.least_open-below.ensures in
    untouched c.args.name.now c.args.self.now.requests.keys (g.H.Host.node c.args.self.now.host) (g.H.Host.node c.forget.new.self) c.least_open-below.result least c.forget.ensures.forgets

pub invariant_of-self : goal.invariant_of-self
invariant_of-self g c =
    let least = least_at _ _ c.args.name.now _ _ c.least_open-below.result c.front.ensures c.as_slice.ensures.keys c.least_open-below.ensures in
    record { posted = posted_forgets c.args.name.now c.args.self.now.requests.keys (g.H.Host.node c.args.self.now.host) (g.H.Host.node c.forget.new.self) c.least_open-below.result least c.forget.ensures.forgets c.args.self.now.posted }
