use Rattle.std.proofs.Common.{refl}
use Rattle.mpx_program_rank.specs.Gives.{IsDone}
use Rattle.mpx_program_rank.proofs.Making.{called}
use Rattle.mpx_program_rank.proofs.rank.Rank.barrier.Goals as goal

pub returns-clause-gives : goal.returns-clause-gives
returns-clause-gives g c =
    let host = g.H.Host in
    let old = c.args.self.now.desk.now in
    called (host.goes_by old.host) _ host.node host.turned host.turn_refused c.args.comm.now.name _ _ c.args.self.now.turns IsDone c.barrier-answer.result c.nothing.result old c.barrier-answer.new.self c.none-ops.ensures
    (refl)
    c.barrier-answer.ensures c.nothing.ensures
