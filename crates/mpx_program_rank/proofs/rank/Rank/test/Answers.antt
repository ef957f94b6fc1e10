use Rattle.mpx_program_rank.proofs.rank.Rank.test.Goals as goal

pub returns-clause-gives : goal.returns-clause-gives
returns-clause-gives g c =
    let turn = c.turn-turned in
    let test = c.test-answer in
    (turn.new.self, turn.result, test.result, (turn.ensures.turns, turn.ensures.requests), test.ensures.no_turn, test.ensures.tests, c.tested.ensures)
