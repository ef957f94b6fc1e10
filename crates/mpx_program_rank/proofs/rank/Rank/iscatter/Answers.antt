use Rattle.std.proofs.Common.{ap, ◌∙◌}
use mir.Syntax.{w128}
use Rattle.std.proofs.lemmas.Int.{to_z-of_z}
use Rattle.mpx_kind.specs.declared.kinds.Mode.TheVariants.{Nonblocking}
use Rattle.mpx_comm.specs.Lines as line
use Rattle.mpx_program_rank.proofs.Making.{on, started}
use Rattle.mpx_program_rank.proofs.rank.Rank.iscatter.Goals as goal

pub returns-clause-starts : goal.returns-clause-starts
returns-clause-starts g c =
    let host = g.H.Host in
    let old = c.args.self.now.desk.now in
    let asked = c.iscatter-answer in
    started (host.goes_by old.host) _ host.node host.turned host.turn_refused c.args.comm.now.name _ _ (λ pending. pending.request) asked.result c.pending.result old asked.new.self c.pending.new.self.desk.now c.none-ops.ensures
    (on _ _ _ _ (on _ _ _ _ (on _ _ _ _ (ap (line.scatter Nonblocking) (to_z-of_z w128 c.from-2.result (record { sfits = c.from-2.type_inv }) ∙ c.from-2.ensures)) c.item_type.ensures) (to_z-of_z w128 c.number_of.result (record { sfits = c.number_of.type_inv }) ∙ c.number_of.ensures)) c.in_ok-given.ensures.numbers)
    asked.ensures.asks asked.ensures.no_turn c.pending.ensures.starts
