use Rattle.std.proofs.Common.{map, subst, sym}
use Rattle.mpx_request.specs.Requests.{AreKept}
use Rattle.mpx_comm.specs.Calls.{ArePosted}
use Rattle.mpx_comm.proofs.Posting.{kept_posted, posted_all_closed, posted_later}
use Rattle.mpx_comm.proofs.desk.Desk.testsome.Goals as goal

pub invariant_of-self-2 : goal.invariant_of-self-2
invariant_of-self-2 g c = record { posted = subst (ArePosted (g.H.Host.node c.look_some.new.host)) (sym c.close_done.ensures) (posted_all_closed (g.H.Host.node c.look_some.new.host) (map (λ d. d.0) c.deref.result.now) c.args.self.now.requests.keys (posted_later (g.H.Host.node c.args.self.now.host) (g.H.Host.node c.look_some.new.host) c.args.self.now.requests.keys c.look_some.ensures.later c.args.self.now.posted)) }

pub look_some-requires : goal.look_some-requires
look_some-requires g c = record { kept = subst (AreKept (g.H.Host.node c.args.self.now.host)) (sym c.as_slice.ensures.keys) (kept_posted (g.H.Host.node c.args.self.now.host) c.args.self.now.requests.keys c.args.self.now.posted) }
