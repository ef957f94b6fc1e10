use Rattle.mpx_node.specs.Shown.{node_of}
use Rattle.mpx_comm.proofs.Steps.{later_says}
use Rattle.mpx_comm.proofs.Posting.{posted_later}
use Rattle.mpx_comm.proofs.alone.Desk+Node.deltas.Goals as goal

pub invariant_of-self : goal.invariant_of-self
invariant_of-self c = record { posted = posted_later (node_of c.args.self.now.host) (node_of c.deltas.new.self) c.args.self.now.requests.keys (later_says c.deltas.result (node_of c.args.self.now.host) (node_of c.deltas.new.self) c.deltas.ensures.own c.deltas.ensures.err) c.args.self.now.posted }
