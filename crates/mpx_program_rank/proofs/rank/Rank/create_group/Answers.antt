use Rattle.std.proofs.Common.{◌∙◌}
use mir.Syntax.{w128}
use Rattle.std.proofs.lemmas.Int.{to_z-of_z}
use Rattle.mpx_program_rank.specs.Gives.{IsNewComm}
use Rattle.mpx_program_rank.proofs.Making.{gathered}
use Rattle.mpx_program_rank.proofs.rank.Rank.create_group.Goals as goal

pub returns-clause-gives : goal.returns-clause-gives
returns-clause-gives g c =
    let host = g.H.Host in
    let old = c.args.self.now.desk.now in
    gathered (host.goes_by old.host) _ host.node host.turned host.turn_refused c.args.comm.now.name _ _ _ _ c.args.self.now.turns IsNewComm c.create_group-answer.result c.new_comm.result old c.create_group-answer.new.self c.none-ops.ensures
    (to_z-of_z w128 c.from-tag.result (record { sfits = c.from-tag.type_inv }) ∙ c.from-tag.ensures) c.in_ok-ranks.ensures.numbers c.create_group-answer.ensures c.new_comm.ensures
