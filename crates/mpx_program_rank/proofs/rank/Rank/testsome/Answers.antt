use Rattle.std.proofs.Common.{subst}
use Rattle.mpx_request.specs.Any.{TestsSome}
use Rattle.mpx_program_rank.proofs.rank.Rank.testsome.Goals as goal

pub returns-clause-gives : goal.returns-clause-gives
returns-clause-gives g c =
    let host = g.H.Host in
    let turn = c.turn-turned in
    let test = c.testsome-answer in
    let between = turn.new.self in
    let tests = subst (λ l. TestsSome (host.goes_by between.host l) test.result (host.node between.host) (host.node test.new.self.host) between.requests.keys test.new.self.requests.keys) c.none-ops.ensures test.ensures.tests in
    (between, turn.result, test.result, (turn.ensures.turns, turn.ensures.requests), test.ensures.no_turn, tests, c.some_tested.ensures)
