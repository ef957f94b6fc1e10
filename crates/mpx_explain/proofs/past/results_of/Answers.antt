use Rattle.std.proofs.Common.{◌≡◌, ap, map, ◌∙◌, subst}
use Rattle.std.specs.Prelude.{IfOk}
use Rattle.std.specs.List.{AllZip}
use Rattle.mpx_explain.specs.Overflows.{IsToldAs, Posts, all_past, all_posts, evaluated}
use Rattle.mpx_explain.specs.Sums.{posts_in}
use Rattle.mpx_explain.proofs.past.results_of.Goals as goal

pub returns : goal.returns
returns c =
    let statements = c.args.script.now.statements in
    let same : posts_in c.deref.result.now ≡ all_posts (evaluated c.args.script.now c.args.found.now) = ap (map (λ p. p.items)) c.deref.ensures.value ∙ c.in_ok-posts.ensures in
    subst (λ (posts : Posts). IfOk c.results_in-results.result (λ found. AllZip IsToldAs found.items (all_past statements posts))) same c.results_in-results.ensures
