use Rattle.std.proofs.Common.{◌≡◌, ◌+◌, ◌<◌, ◌++◌, List, Some, suc, length, map, ap, sym, ◌∙◌, arith}
use Rattle.std.specs.Prelude.{slice_get}
use Rattle.mpx_num.specs.declared.own.Operation.{Operation}
use Rattle.mpx_num.specs.Own.{operation_of}
use Rattle.mpx_eval.specs.Complaints.{complaints_upto}
use Rattle.mpx_eval.specs.Carrying.{shown}
use Rattle.mpx_eval.specs.Tables.{table_of}
use Rattle.mpx_eval.specs.Unheard.{unheard_found}
use Rattle.mpx_post.proofs.Lists.{element}
use Rattle.mpx_eval.proofs.unheard.unheard_of.Goals as goal

pub loop-p-preserved : goal.loop-p-preserved
loop-p-preserved g c =
    let ops : List Operation = (map (λ b. let o = goal.OwnOp-dyn g (b.vtable, b.value) in operation_of (o.word_bytes b.value) (o.fits_type b.value) (o.combination b.value)) c.args.ops.now.list.items) in
    let statements = c.args.script.now.statements in
    let t = table_of c.args.table.now in
    let places = c.args.places.now in
    let p = c.loop-p.p in
    let place = c.index-places-p.result in
    let l : p < length places = omega (arith, c.loop-p-test.true, c.requires) in
    let at : slice_get (map shown places) p ≡ Some (shown place) = element shown places p place l ∙ ap (λ x. Some (shown x)) (sym c.index-places-p.is) in
    let next : suc p ≡ p + 1 = omega arith in
    c.in_ok-push_of_rank.ensures
    ∙ (λ i. c.loop-p.invariant i ++ unheard_found ops statements t p (sym at i))
    ∙ ap (complaints_upto (λ q. unheard_found ops statements t q (slice_get (map shown places) q))) next
