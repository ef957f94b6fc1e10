use Rattle.std.proofs.Common.{◌≡◌, ℕ, arith, length, subst}
use Rattle.mpx_explain.specs.Sums.{AreUpto, statements_in}
use Rattle.mpx_explain.proofs.past.all_sums.Goals as goal

pub loop-rank-preserved : goal.loop-rank-preserved
loop-rank-preserved c = c.add_given.ensures c.loop-rank.invariant

pub returns : goal.returns
returns c =
    let row = c.args.row.now in
    let all : c.loop-rank.rank ≡ length (statements_in row) = omega (arith, c.loop-rank-test.false, c.loop-rank.auto.rank-end, c.ranks-rank-end.ensures.each_rank) in
    subst (λ (n : ℕ). AreUpto row n c.loop-rank.sums.items) all c.loop-rank.invariant
