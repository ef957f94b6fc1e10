use Rattle.std.proofs.Common.{ap, ◌∙◌}
use mir.Syntax.{w128}
use Rattle.std.proofs.lemmas.Int.{to_z-of_z}
use Rattle.mpx_kind.specs.declared.kinds.Mode.TheVariants.{Blocking}
use Rattle.mpx_comm.specs.Lines as line
use Rattle.mpx_program_rank.specs.Gives.{IsRead}
use Rattle.mpx_program_rank.proofs.Making.{called, on}
use Rattle.mpx_program_rank.proofs.rank.Rank.gatherv.Goals as goal

pub returns-clause-gives : goal.returns-clause-gives
returns-clause-gives g c =
    let host = g.H.Host in
    let old = c.args.self.now.desk.now in
    called (host.goes_by old.host) _ host.node host.turned host.turn_refused c.args.comm.now.name _ _ c.args.self.now.turns (IsRead g.T.Item.numbers) c.gatherv-answer.result c.listed.result old c.gatherv-answer.new.self c.none-ops.ensures
    (on _ _ _ _ (on _ _ _ _ (on _ _ _ _ (ap (line.gatherv Blocking) (to_z-of_z w128 c.from-2.result (record { sfits = c.from-2.type_inv }) ∙ c.from-2.ensures)) c.item_type.ensures) c.in_ok-counts.ensures.numbers) c.in_ok-given.ensures.numbers)
    c.gatherv-answer.ensures c.listed.ensures
