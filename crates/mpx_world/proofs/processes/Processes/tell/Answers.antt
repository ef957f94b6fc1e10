use Rattle.mpx_world.proofs.Showing.{nothing_told}
use Rattle.mpx_world.proofs.processes.Processes.tell.Goals as goal

pub returns-in_err-reserve-clause-err : goal.returns-in_err-reserve-clause-err
returns-in_err-reserve-clause-err g c = nothing_told _ c.from_residual.result c.args.event.now c.args.self.now

pub returns-clause-ok : goal.returns-clause-ok
returns-clause-ok g c w same s = (c.in_ok-reply.ensures w same s).shown
