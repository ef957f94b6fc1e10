use Rattle.std.proofs.Common.{◌≡◌, ◌+◌, ◌<◌, ◌++◌, Some, suc, length, map, ap, sym, ◌∙◌, arith}
use Rattle.std.specs.Prelude.{slice_get}
use Rattle.mpx_eval.specs.Complaints.{complaints_upto}
use Rattle.mpx_eval.specs.Found.{complaints_found}
use Rattle.mpx_eval.specs.Carrying.{shown}
use Rattle.mpx_post.proofs.Lists.{element}
use Rattle.mpx_eval.proofs.complaints.complaints_of.Goals as goal

pub loop-p-preserved : goal.loop-p-preserved
loop-p-preserved c =
    let statements = c.args.script.now.statements in
    let places = c.args.places.now in
    let p = c.loop-p.p in
    let place = c.index-places-p.result in
    let l : p < length places = omega (arith, c.loop-p-test.true, c.requires) in
    let at : slice_get (map shown places) p ≡ Some (shown place) = element shown places p place l ∙ ap (λ x. Some (shown x)) (sym c.index-places-p.is) in
    let next : suc p ≡ p + 1 = omega arith in
    c.in_ok-push_of_rank.ensures
    ∙ (λ i. c.loop-p.invariant i ++ complaints_found statements p (sym at i))
    ∙ ap (complaints_upto (λ q. complaints_found statements q (slice_get (map shown places) q))) next
