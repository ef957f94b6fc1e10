use Rattle.std.proofs.Common.{◌≡◌, ◌+◌, ◌++◌, ◌∷◌, [], map, ap, sym, ◌∙◌, subst}
use Rattle.std.proofs.lemmas.List.{map-append}
use Rattle.mpx_eval.specs.Rounds.{Start, StartsAt}
use Rattle.mpx_eval.specs.Carrying.{shown}
use Rattle.mpx_eval.proofs.Reporting.{one_more_starts}
use Rattle.mpx_eval.proofs.evaluation.start.Goals as goal

pub loop-me-preserved : goal.loop-me-preserved
loop-me-preserved c =
    let script = c.args.script.now in
    let xs = c.loop-me.places.items in
    let new = c.in_ok-start_at.field-0 in
    let same : map shown xs ++ shown new ∷ [] ≡ map shown c.push.new.self.items = sym (map-append shown xs (new ∷ [])) ∙ ap (map shown) (sym c.in_ok-push.ensures.items) in
    let at : StartsAt script.statements script.ranks c.loop-me.me (shown new) = subst (λ n. StartsAt script.statements n c.loop-me.me (shown new)) c.ranks-ranks.ensures.ranks c.in_ok-start_at.ensures in
    subst (Start script.statements script.ranks (c.loop-me.me + 1)) same (one_more_starts script.statements script.ranks c.loop-me.me (map shown xs) (shown new) c.loop-me.invariant at)
