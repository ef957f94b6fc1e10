use Rattle.std.proofs.Common.{◌≡◌, true, sym, ◌∙◌, arith, below_more}
use Rattle.mpx_post.specs.Agreement.{first_of, post_at}
use Rattle.mpx_match.specs.Alike.{is_alike}
use Rattle.mpx_match.proofs.verdicts.are_alike.Goals as goal

pub loop-rank-preserved : goal.loop-rank-preserved
loop-rank-preserved c =
    below_more (λ k. is_alike (first_of c.args.row.now) (post_at c.args.row.now k) ≡ true) c.loop-rank.rank c.loop-rank.invariant (rw (c.post.ensures.value, c.post-in-loop-rank.ensures.value) at (sym c.is_alike.ensures ∙ c.if-not-is_alike.false))

pub returns : goal.returns
returns c = λ t k l. c.loop-rank.invariant k (omega arith)
