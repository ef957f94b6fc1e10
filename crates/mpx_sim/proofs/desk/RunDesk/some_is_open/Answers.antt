use Rattle.std.proofs.Common.{ap}
use Rattle.std.specs.Option.{option_copied}
use Rattle.mpx_node.specs.Shown.{node_of}
use Rattle.mpx_sim.specs.Carrying.{harvests_none}
use Rattle.mpx_sim.proofs.Resting.{if_ok_then}
use Rattle.mpx_sim.proofs.desk.RunDesk.some_is_open.Goals as goal

pub returns-in-None-clause-harvested : goal.returns-in-None-clause-harvested
returns-in-None-clause-harvested g c = harvests_none _ (node_of c.args.self.now.desk.host)

pub returns-in-Some-clause-pending : goal.returns-in-Some-clause-pending
returns-in-Some-clause-pending g c = if_ok_then c.is_open.result (λ pends h e. (c.in-Some.call.now, ap option_copied c.in-Some.is, h e)) c.is_open.ensures.pending
