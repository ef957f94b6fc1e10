use Rattle.std.proofs.Common.{subst, sym}
use Rattle.mpx_node.specs.Shown.{node_of}
use Rattle.mpx_comm.specs.Calls.{ArePosted}
use Rattle.mpx_comm.proofs.Posting.{posted_closed}
use Rattle.mpx_comm.proofs.alone.Desk+Node.close.Goals as goal

pub invariant_of-self : goal.invariant_of-self
invariant_of-self c = record { posted = subst (ArePosted (node_of c.args.self.now.host)) (sym c.shift_remove.ensures.keys) (posted_closed (node_of c.args.self.now.host) c.args.self.now.requests.keys c.args.request.now c.args.self.now.posted) }
