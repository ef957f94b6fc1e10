use Rattle.std.proofs.Common.{Some, ap, ◌∙◌}
use mir.Syntax.{w128}
use Rattle.std.proofs.lemmas.Int.{to_z-of_z}
use Rattle.mpx_comm.specs.Lines as line
use Rattle.mpx_program_rank.specs.Gives.{IsNewComm}
use Rattle.mpx_program_rank.proofs.Making.{called, on}
use Rattle.mpx_program_rank.proofs.rank.Rank.split_by.Goals as goal

pub returns-clause-gives : goal.returns-clause-gives
returns-clause-gives g c =
    let host = g.H.Host in
    let old = c.args.self.now.desk.now in
    called (host.goes_by old.host) _ host.node host.turned host.turn_refused c.args.comm.now.name _ _ c.args.self.now.turns IsNewComm c.split-answer.result c.new_comm.result old c.split-answer.new.self c.none-ops.ensures
    (on _ _ _ _ (ap (λ colour. line.split (Some colour)) (to_z-of_z w128 c.number.result (record { sfits = c.number.type_inv }) ∙ c.number.ensures.value)) (to_z-of_z w128 c.number-key.result (record { sfits = c.number-key.type_inv }) ∙ c.number-key.ensures.value))
    c.split-answer.ensures c.new_comm.ensures
