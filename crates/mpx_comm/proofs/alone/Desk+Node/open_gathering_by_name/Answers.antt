use Rattle.mpx_node.specs.Shown.{node_of}
use Rattle.mpx_comm.proofs.Steps.{later_gathers}
use Rattle.mpx_comm.proofs.Posting.{posted_later}
use Rattle.mpx_comm.proofs.alone.Desk+Node.open_gathering_by_name.Goals as goal

pub invariant_of-self : goal.invariant_of-self
invariant_of-self c = record { posted = posted_later (node_of c.args.self.now.host) (node_of c.open_gathering.new.self) c.args.self.now.requests.keys (later_gathers _ _ c.open_gathering.result (node_of c.args.self.now.host) (node_of c.open_gathering.new.self) c.open_gathering.ensures) c.args.self.now.posted }
