use Rattle.std.proofs.Common.{◌≡◌, ℕ, ◌==◌, get_or, true, sym, ◌∙◌, ap, Some}
use Rattle.std.specs.List.{position_from}
use Rattle.std.proofs.lemmas.Bool.{cond-true}
use Rattle.std.proofs.lemmas.List.{at_drop_more, at_drop_all}
use Rattle.std.proofs.lemmas.Iterator.Adapters.{position_from-zero}
use Rattle.mpx_group.proofs.groups.Group.rank_of.Goals as goal

pub returns-then-eq : goal.returns-then-eq
returns-then-eq c =
    let t = λ (q : ℕ). q == c.args.process in
    let here : t (get_or c.deref-member-items.result.now c.loop-rank.rank c.member-item.result) ≡ true = cc in
    let some = at_drop_more (position_from t c.loop-rank.rank) _ _ c.member-item.result c.loop-rank-test.true ∙ cond-true _ (Some c.loop-rank.rank) _ here in
    sym some ∙ c.loop-rank.invariant ∙ ap (position_from t 0) c.deref-member-items.ensures.value ∙ ap (position_from t 0) c.self.view_is ∙ sym (position_from-zero t c.args.self.now)

pub returns : goal.returns
returns c =
    let t = λ (q : ℕ). q == c.args.process in
    let none = sym c.loop-rank.invariant ∙ at_drop_all (position_from t c.loop-rank.rank) _ _ c.loop-rank-test.false in
    sym none ∙ ap (position_from t 0) c.deref-member-items.ensures.value ∙ ap (position_from t 0) c.self.view_is ∙ sym (position_from-zero t c.args.self.now)
