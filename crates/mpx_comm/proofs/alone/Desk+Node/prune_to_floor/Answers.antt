use Rattle.mpx_node.specs.Shown.{node_of}
use Rattle.mpx_comm.proofs.Steps.{later_drops}
use Rattle.mpx_comm.proofs.Posting.{posted_later}
use Rattle.mpx_comm.proofs.alone.Desk+Node.prune_to_floor.Goals as goal

pub invariant_of-self : goal.invariant_of-self
invariant_of-self c = record { posted = posted_later (node_of c.args.self.now.host) (node_of c.prune_to_floor.new.self) c.args.self.now.requests.keys (later_drops c.args.name.now c.prune_to_floor.result (node_of c.args.self.now.host) (node_of c.prune_to_floor.new.self) c.prune_to_floor.ensures) c.args.self.now.posted }
