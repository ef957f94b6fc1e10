use Rattle.std.proofs.Common.{◌≡◌, ◌+◌, ℕ, List, arith, length, subst, sym}
use Rattle.mpx_explain.specs.Sums.{AreUpto, past_for, statements_in, taken_by}
use Rattle.mpx_explain.specs.declared.exact.Exact.{Exact}
use Rattle.mpx_explain.proofs.Summing.{told_more, told_nothing, told_upto}
use Rattle.mpx_explain.proofs.past.push_scanned.Goals as goal

pub loop-rank-init : goal.loop-rank-init
loop-rank-init c = record { sums = c.in_ok-sums.ensures; all = told_nothing c.args.all.now.items }

pub push_result-requires-clause-sums : goal.push_result-requires-clause-sums
push_result-requires-clause-sums c =
    let row = c.args.row.now in
    subst (λ (xs : List Exact). AreUpto row (taken_by row c.loop-rank.rank) xs) (sym c.deref.ensures.value)
    (subst (λ (n : ℕ). AreUpto row n c.add_given.new.sums.items) (sym (c.requires.taken (length (statements_in row)) c.loop-rank.rank)) (c.add_given.ensures c.loop-rank.invariant.sums))

pub loop-rank-preserved : goal.loop-rank-preserved
loop-rank-preserved c = record {
  sums = c.add_given.ensures c.loop-rank.invariant.sums;
  all = told_more (past_for c.args.row.now) c.loop-rank.rank c.args.all.now.items c.loop-rank.all.items c.push_result.new.all.items c.loop-rank.invariant.all c.in_ok-push_result.ensures;
}

pub returns : goal.returns
returns c =
    let row = c.args.row.now in
    let all : c.loop-rank.rank ≡ length (statements_in row) = omega (arith, c.loop-rank-test.false, c.loop-rank.auto.rank-end, c.ranks-rank-end.ensures.each_rank) in
    told_upto (past_for row) c.loop-rank.rank (length (statements_in row)) c.args.all.now.items c.loop-rank.all.items all c.loop-rank.invariant.all
