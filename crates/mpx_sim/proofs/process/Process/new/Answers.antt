use Rattle.std.proofs.Common.{◌∙◌, Some, ap, sym}
use Rattle.mpx_rank.specs.Shown.{rank_of}
use Rattle.mpx_sim.specs.Shown.{call_of}
use Rattle.mpx_node.specs.Shown.{node_of}
use Rattle.mpx_sim.proofs.SideBySide.{none_made}
use Rattle.mpx_sim.proofs.Starting.{stands_first}
use Rattle.mpx_sim.proofs.process.Process.new.Goals as goal

pub returns-in-Ok-new-clause-stands : goal.returns-in-Ok-new-clause-stands
returns-in-Ok-new-clause-stands c script l some =
    let e = c.in-Ok-new.ensures in
    stands_first script c.args.ranks c.args.me (rank_of call_of c.in-Ok-new.rank) c.world_of-world.result (c.world_of-world.ensures l) e.bound e.requests (some ∙ ap Some (sym e.todo)) e.waits e.lines e.origins

pub returns-in-Ok-new-clause-ready : goal.returns-in-Ok-new-clause-ready
returns-in-Ok-new-clause-ready c = none_made (node_of c.in-Ok.carrier.desk.host) c.new-in-Ok-new-2.result.ahead c.new-in-Ok-new-2.result.last c.new-in-Ok-new-2.ensures.ahead c.new-in-Ok-new-2.ensures.last
