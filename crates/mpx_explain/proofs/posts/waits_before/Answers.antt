use Rattle.std.proofs.Common.{ℕ, nat_lt, ◌==◌, ◌&&◌, sym, ◌∙◌, rules, tests}
use Rattle.std.proofs.lemmas.Iterator.{YieldsList-from_slice}
use Rattle.std.proofs.lemmas.Iterator.Search.{any_from_yields_List}
use Rattle.mpx_eval.specs.Found.{waiting_view}
use Rattle.mpx_eval.specs.declared.who_waits.WaitingRank.{WaitingRank}
use Rattle.mpx_explain.proofs.Summing.{list_any-map}
use Rattle.mpx_explain.proofs.posts.waits_before.Goals as goal

pub returns : goal.returns
returns c =
    let all = c.args.waiting.now in
    any_from_yields_List (λ (w : WaitingRank). (w.rank == c.args.rank) && nat_lt w.statement c.args.place) _ _ c.any.result c.any.ensures.ran (YieldsList-from_slice all cc) (λ x b q k. search (rules, tests))
    ∙ sym (list_any-map _ waiting_view all)
