use Rattle.mpx_comm.proofs.Posting.{posted_later}
use Rattle.mpx_comm.proofs.Steps.{later_gathers}
use Rattle.mpx_comm.proofs.desk.Desk.open_gathering.Goals as goal

pub invariant_of-self : goal.invariant_of-self
invariant_of-self g c = record { posted = posted_later (g.H.Host.node c.args.self.now.host) (g.H.Host.node c.open_gathering-opened.new.self) c.args.self.now.requests.keys (later_gathers _ _ c.open_gathering-opened.result (g.H.Host.node c.args.self.now.host) (g.H.Host.node c.open_gathering-opened.new.self) c.open_gathering-opened.ensures.opens) c.args.self.now.posted }
