use Rattle.mpx_node.specs.Shown.{node_of}
use Rattle.mpx_comm.proofs.Steps.{later_harvests_all}
use Rattle.mpx_comm.proofs.Posting.{posted_later}
use Rattle.mpx_comm.proofs.alone.Desk+Node.harvest_all.Goals as goal

pub invariant_of-self : goal.invariant_of-self
invariant_of-self g c = record { posted = posted_later (node_of c.args.self.now.host) (node_of c.harvest_all.new.self) c.args.self.now.requests.keys (later_harvests_all _ c.args.name.now c.harvest_all.result (node_of c.args.self.now.host) (node_of c.harvest_all.new.self) c.harvest_all.ensures.ok c.harvest_all.ensures.err) c.args.self.now.posted }
