use Rattle.std.proofs.Common.{◌≡◌, ◌∷◌, ◌++◌, [], ◌+◌, suc, take, get_or, arith, rules, sym, ap, ◌∙◌, None, Some}
use Rattle.std.proofs.Math.Seq.{take-suc}
use Rattle.mpx_post.specs.Rows.{all_of}
use Rattle.mpx_meaning.specs.Ranks.{rank_asked}
use Rattle.mpx_statement.proofs.Entries.{all_of_none, all_of_push}
use Rattle.mpx_meaning.proofs.asking.ranks_asked.Goals as goal

pub returns-in_default : goal.returns-in_default
returns-in_default c = sym (all_of_none (rank_asked c.args.size) c.args.ranks.now c.loop-rank.rank-index None c.loop-rank-test.true (sym c.rank_asked.ensures ∙ c.in_default.is))

pub loop-rank-preserved : goal.loop-rank-preserved
loop-rank-preserved c =
    let next : c.loop-rank.rank-index + 1 ≡ suc c.loop-rank.rank-index = omega arith in
    let pushed : c.push.new.self.items ≡ c.loop-rank.asked.items ++ c.in-Some.rank ∷ [] = search rules in
    ap (all_of (rank_asked c.args.size)) (ap (λ k. take k c.args.ranks.now) next ∙ take-suc c.args.ranks.now c.loop-rank.rank-index None c.loop-rank-test.true)
    ∙ all_of_push (rank_asked c.args.size) (take c.loop-rank.rank-index c.args.ranks.now) c.loop-rank.asked.items (get_or c.args.ranks.now c.loop-rank.rank-index None) c.in-Some.rank c.loop-rank.invariant (sym c.rank_asked.ensures ∙ c.in-Some.is)
    ∙ ap Some (sym pushed)
