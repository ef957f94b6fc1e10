use Rattle.std.proofs.Common.{◌≡◌, false, sym, ◌∙◌, arith, below_more}
use Rattle.mpx_post.specs.Agreement.{post_at}
use Rattle.mpx_match.specs.Questions.{is_faulty}
use Rattle.mpx_match.proofs.Least.{least_rank-found, least_rank-absent}
use Rattle.mpx_match.proofs.verdicts.least_rank.Goals as goal

pub returns-then-is_faulty : goal.returns-then-is_faulty
returns-then-is_faulty g c =
    sym (least_rank-found (is_faulty _ c.args.birth.now.topology c.args.question c.args.row.now) _ _ c.loop-rank.invariant (omega arith) (sym c.is_faulty.ensures ∙ c.if-is_faulty.true))

pub returns : goal.returns
returns g c = sym (least_rank-absent (is_faulty _ c.args.birth.now.topology c.args.question c.args.row.now) _ _ c.loop-rank.invariant (omega arith))

pub returns-then-is_settled : goal.returns-then-is_settled
returns-then-is_settled g c = sym (c.is_settled.ensures c.if-is_settled.true _ c.args.birth.now.topology)

pub loop-rank-preserved : goal.loop-rank-preserved
loop-rank-preserved g c =
    below_more (λ k. is_faulty _ c.args.birth.now.topology c.args.question c.args.row.now k (post_at c.args.row.now k) ≡ false) c.loop-rank.rank c.loop-rank.invariant (sym c.is_faulty.ensures ∙ c.if-is_faulty.false)
