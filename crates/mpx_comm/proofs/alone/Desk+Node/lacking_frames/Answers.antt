use Rattle.mpx_node.specs.Shown.{node_of}
use Rattle.mpx_request.proofs.Steps.{later_same}
use Rattle.mpx_comm.proofs.Posting.{posted_later}
use Rattle.mpx_comm.proofs.alone.Desk+Node.lacking_frames.Goals as goal

pub invariant_of-self : goal.invariant_of-self
invariant_of-self c = record { posted = posted_later (node_of c.args.self.now.host) (node_of c.lacking_frames.new.self) c.args.self.now.requests.keys (later_same (node_of c.args.self.now.host) (node_of c.lacking_frames.new.self) c.lacking_frames.ensures.node) c.args.self.now.posted }
