use Rattle.mpx_format.specs.Decoding.{decoded, shown}
use Rattle.mpx_node.specs.Shown.{node_of}
use Rattle.mpx_comm.proofs.Steps.{later_takes}
use Rattle.mpx_comm.proofs.Posting.{posted_later}
use Rattle.mpx_comm.proofs.alone.Desk+Node.take_rope.Goals as goal

pub invariant_of-self : goal.invariant_of-self
invariant_of-self c = record { posted = posted_later (node_of c.args.self.now.host) (node_of c.take_rope.new.self) c.args.self.now.requests.keys (later_takes c.take_rope.result (shown (decoded c.args.frame.now)) (node_of c.args.self.now.host) (node_of c.take_rope.new.self) c.take_rope.ensures.ok c.take_rope.ensures.err) c.args.self.now.posted }
