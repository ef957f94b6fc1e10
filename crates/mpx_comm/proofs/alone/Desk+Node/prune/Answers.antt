use Rattle.mpx_node.specs.Nodes.{prune_part}
use Rattle.mpx_node.specs.Shown.{node_of}
use Rattle.mpx_comm.proofs.Steps.{later_prunes}
use Rattle.mpx_comm.proofs.Posting.{posted_later}
use Rattle.mpx_comm.proofs.alone.Desk+Node.prune.Goals as goal

pub invariant_of-self : goal.invariant_of-self
invariant_of-self c = record { posted = posted_later (node_of c.args.self.now.host) (node_of c.prune.new.self) c.args.self.now.requests.keys (later_prunes c.prune.result (prune_part (node_of c.args.self.now.host) c.args.name.now c.args.number) (node_of c.args.self.now.host) (node_of c.prune.new.self) c.prune.ensures.ok c.prune.ensures.err) c.args.self.now.posted }
