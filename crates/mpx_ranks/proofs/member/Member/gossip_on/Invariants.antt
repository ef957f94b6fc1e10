use Rattle.mpx_bus.specs.Ports.{node_in}
use Rattle.mpx_request.specs.Later.{Later}
use Rattle.mpx_ranks.specs.Had.{GoesOn}
use Rattle.mpx_ranks.proofs.member.Member.gossip_on.Given as goal

abbrev pub invariant-loop : goal.invariant-loop
invariant-loop g l = record {
  later : Later (node_in l.fn.self.port) (node_in l.self.port);
  goes_on : GoesOn l.fn.self.port l.self.port;
}
