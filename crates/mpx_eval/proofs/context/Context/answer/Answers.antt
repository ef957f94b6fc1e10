use Rattle.std.proofs.Common.{◌≡◌, ap, sym, ◌∙◌, length, subst, arith}
use Rattle.std.specs.Prelude.{IfSome}
use Rattle.mpx_post.specs.Rows.{RowView}
use Rattle.mpx_eval.specs.Contexts.{ContextView}
use Rattle.mpx_group.proofs.Members.{rank_in-below}
use Rattle.mpx_eval.proofs.context.Context.answer.Goals as goal

pub outcome-requires-clause-rank : goal.outcome-requires-clause-rank
outcome-requires-clause-rank g c =
    let many : length c.in-Some.row ≡ length c.args.self.now.birth.members = subst (λ o. IfSome o (λ (posts : RowView). length posts ≡ length c.args.self.now.birth.members)) c.in-Some.is c.in_ok-row.ensures.members in
    let same : length c.args.self.now.birth.members ≡ length c.self.inside.birth.members = ap (λ (v : ContextView). length v.birth.members) (sym c.self.view_is) in
    omega (arith, many, same, rank_in-below c.args.me c.self.inside.birth.members c.in-Some-rank_of.rank (sym c.rank_of.ensures ∙ c.in-Some-rank_of.is))
