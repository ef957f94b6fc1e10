use Rattle.std.proofs.Common.{ap, ◌∙◌, arith}
use Rattle.std.proofs.Math.ListN.{set}
use Rattle.join_nest.proofs.Exchanges.{set_is_value, taken_is, past_stays, past_taken}
use Rattle.join_nest.proofs.exchange.exchange_value.Goals as goal

pub returns-then-at-len-clause-entries : goal.returns-then-at-len-clause-entries
returns-then-at-len-clause-entries g c =
    ap (λ v. set c.args.entries.now.items c.args.change.now.0 (c.index_mut.result.now.0, v)) c.swap.ensures.x_after
    ∙ set_is_value c.args.entries.now.items c.args.change.now.0 c.index_mut.result.now c.args.change.now.1 (omega arith) c.index_mut.ensures.value

pub returns-then-at-len-clause-change : goal.returns-then-at-len-clause-change
returns-then-at-len-clause-change g c =
    ap (λ v. (c.args.change.now.0, v)) (c.swap.ensures.y_after
    ∙ taken_is c.args.entries.now.items c.args.change.now.0 c.index_mut.result.now c.args.change.now.1 (omega arith) c.index_mut.ensures.value)

pub returns-else-at-len-clause-entries : goal.returns-else-at-len-clause-entries
returns-else-at-len-clause-entries g c = past_stays c.args.entries.now.items c.args.change.now.0 c.args.change.now.1 (omega arith)

pub returns-else-at-len-clause-change : goal.returns-else-at-len-clause-change
returns-else-at-len-clause-change g c = ap (λ v. (c.args.change.now.0, v)) (past_taken c.args.entries.now.items c.args.change.now.0 c.args.change.now.1 (omega arith))
