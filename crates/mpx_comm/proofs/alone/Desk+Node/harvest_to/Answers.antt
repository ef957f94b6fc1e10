use Rattle.std.proofs.Common.{sym}
use Rattle.mpx_node.specs.Shown.{node_of}
use Rattle.mpx_comm.proofs.Steps.{later_harvests_to}
use Rattle.mpx_comm.proofs.Posting.{posted_later}
use Rattle.mpx_comm.proofs.alone.Desk+Node.harvest_to.Goals as goal

pub invariant_of-self : goal.invariant_of-self
invariant_of-self g c = record { posted = posted_later (node_of c.args.self.now.host) (node_of c.harvest_to.new.self) c.args.self.now.requests.keys (later_harvests_to _ _ _ c.harvest_to.result (node_of c.args.self.now.host) (node_of c.harvest_to.new.self) c.harvest_to.ensures.ok c.harvest_to.ensures.err) c.args.self.now.posted }

pub returns-clause-err : goal.returns-clause-err
returns-clause-err g c = rw (sym c.name.ensures) (rw (sym c.call.ensures) c.harvest_to.ensures.err)
