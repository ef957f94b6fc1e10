use Rattle.mpx_node.specs.Shown.{node_of}
use Rattle.mpx_request.proofs.Steps.{later_harvest}
use Rattle.mpx_comm.proofs.Posting.{posted_later}
use Rattle.mpx_comm.proofs.alone.Desk+Node.harvest.Goals as goal

pub invariant_of-self : goal.invariant_of-self
invariant_of-self g c = record { posted = posted_later (node_of c.args.self.now.host) (node_of c.harvest.new.self) c.args.self.now.requests.keys (later_harvest _ (node_of c.args.self.now.host) (node_of c.harvest.new.self) c.args.name.now c.harvest.result c.harvest.ensures) c.args.self.now.posted }
