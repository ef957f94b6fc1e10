use Rattle.std.proofs.Common.{ap}
use Rattle.mpx_kind.specs.declared.kinds.Mode.TheVariants.{Nonblocking}
use Rattle.mpx_comm.specs.Lines as line
use Rattle.mpx_program_rank.proofs.Making.{on, started}
use Rattle.mpx_program_rank.proofs.rank.Rank.ireduce_scatter.Goals as goal

pub returns-clause-starts : goal.returns-clause-starts
returns-clause-starts g c =
    let host = g.H.Host in
    let old = c.args.self.now.desk.now in
    let asked = c.ireduce_scatter-answer in
    started (host.goes_by old.host) _ host.node host.turned host.turn_refused c.args.comm.now.name _ _ (λ pending. pending.request) asked.result c.pending.result old asked.new.self c.pending.new.self.desk.now c.none-ops.ensures
    (on _ _ _ _ (on _ _ _ _ (ap (line.reduce_scatter Nonblocking c.args.op) c.item_type.ensures) c.in_ok-counts.ensures.numbers) c.in_ok-given.ensures.numbers)
    asked.ensures.asks asked.ensures.no_turn c.pending.ensures.starts
