use Rattle.std.proofs.Common.{◌≡◌, ◌<◌, ◌++◌, ◌∷◌, [], Some, cond, length, map, ap, sym, ◌∙◌, arith}
use Rattle.std.specs.Prelude.{slice_get}
use Rattle.mpx_eval.specs.Found.{found_at, waiting_view}
use Rattle.mpx_eval.specs.Rounds.{is_waiting_at}
use Rattle.mpx_eval.specs.Carrying.{shown}
use Rattle.mpx_eval.specs.Tables.{table_of}
use Rattle.mpx_post.proofs.Lists.{element}
use Rattle.mpx_eval.proofs.Waits.{found_more}
use Rattle.mpx_eval.proofs.who_waits.waiting_ranks.Goals as goal

pub loop-p-preserved : goal.loop-p-preserved
loop-p-preserved c =
    let t = table_of c.args.table.now in
    let statements = c.args.script.now.statements in
    let places = c.args.places.now in
    let p = c.loop-p.p in
    let place = c.index-places-p.result in
    let l : p < length places = omega (arith, c.loop-p-test.true, c.requires) in
    let at : slice_get (map shown places) p ≡ Some (shown place) = element shown places p place l ∙ ap (λ x. Some (shown x)) (sym c.index-places-p.is) in
    let had = map waiting_view c.loop-p.found.items in
    found_more (λ q. found_at statements t q (slice_get (map shown places) q)) (λ q. is_waiting_at (slice_get (map shown places) q)) p had (map waiting_view c.push_found.new.found.items) c.loop-p.invariant
    (c.in_ok-push_found.ensures ∙ λ i. had ++ cond (is_waiting_at (sym at i)) (found_at statements t p (sym at i) ∷ []) [])
