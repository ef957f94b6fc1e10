use Rattle.mpx_program_rank.proofs.rank.Rank.status.Goals as goal

pub returns-clause-gives : goal.returns-clause-gives
returns-clause-gives g c =
    let turn = c.turn-turned in
    let status = c.status-answer in (
      turn.new.self,
      turn.result,
      status.result,
      (turn.ensures.turns, turn.ensures.requests),
      status.ensures.no_turn,
      status.ensures.status,
      status.ensures.wanting,
      status.ensures.requests,
      c.status_of.ensures,
    )
