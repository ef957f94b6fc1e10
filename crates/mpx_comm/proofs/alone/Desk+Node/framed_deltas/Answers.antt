use Rattle.mpx_node.specs.Shown.{node_of}
use Rattle.mpx_comm.proofs.Steps.{later_says}
use Rattle.mpx_comm.proofs.Posting.{posted_later}
use Rattle.mpx_comm.proofs.alone.Desk+Node.framed_deltas.Goals as goal

pub invariant_of-self : goal.invariant_of-self
invariant_of-self c = record { posted = posted_later (node_of c.args.self.now.host) (node_of c.framed_deltas.new.self) c.args.self.now.requests.keys (later_says c.framed_deltas.result (node_of c.args.self.now.host) (node_of c.framed_deltas.new.self) c.framed_deltas.ensures.own c.framed_deltas.ensures.err) c.args.self.now.posted }
