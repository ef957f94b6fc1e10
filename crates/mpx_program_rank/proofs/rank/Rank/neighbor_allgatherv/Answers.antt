use Rattle.std.proofs.Common.{ap}
use Rattle.mpx_kind.specs.declared.kinds.Mode.TheVariants.{Blocking}
use Rattle.mpx_comm.specs.Lines as line
use Rattle.mpx_program_rank.specs.Gives.{IsRead}
use Rattle.mpx_program_rank.proofs.Making.{called, on}
use Rattle.mpx_program_rank.proofs.rank.Rank.neighbor_allgatherv.Goals as goal

pub returns-clause-gives : goal.returns-clause-gives
returns-clause-gives g c =
    let host = g.H.Host in
    let old = c.args.self.now.desk.now in
    called (host.goes_by old.host) _ host.node host.turned host.turn_refused c.args.comm.now.name _ _ c.args.self.now.turns (IsRead g.T.Item.numbers) c.neighbor_allgatherv-answer.result c.listed.result old c.neighbor_allgatherv-answer.new.self c.none-ops.ensures
    (on _ _ _ _ (on _ _ _ _ (ap (line.neighbor_allgatherv Blocking) c.item_type.ensures) c.in_ok-counts.ensures.numbers) c.in_ok-given.ensures.numbers)
    c.neighbor_allgatherv-answer.ensures c.listed.ensures
