use Rattle.std.proofs.Common.{List, ap, map, subst, sym, ◌∙◌}
use Rattle.mpx_num.specs.declared.own.Operation.{Operation}
use Rattle.mpx_num.specs.Own.{operation_of}
use Rattle.mpx_meaning.specs.Ends.{end_view, waiting_among}
use Rattle.mpx_eval.specs.Evaluated.{EndSo}
use Rattle.mpx_eval.proofs.Reporting.{evaluated}
use Rattle.mpx_eval.proofs.evaluation.eval.Goals as goal

pub returns-clause-lines : goal.returns-clause-lines
returns-clause-lines g c =
    let ops : List Operation = map (λ b. let o = goal.OwnOp-dyn g (b.vtable, b.value) in operation_of (o.word_bytes b.value) (o.fits_type b.value) (o.combination b.value)) c.args.ops.now.list.items in
    let same = sym c.in_ok-report.ensures.ends in
    evaluated ops c.args.script.now c.in_ok-report.report.ends.items c.in_ok-report.report.waiting.items
    (subst (λ v. EndSo ops c.args.script.now (map end_view v.items)) same c.in_ok-ends.ensures)
    (c.in_ok-report.ensures.waiting ∙ ap (λ v. waiting_among (map end_view v.items)) same)

pub returns-clause-ends : goal.returns-clause-ends
returns-clause-ends g c =
    let ops : List Operation = map (λ b. let o = goal.OwnOp-dyn g (b.vtable, b.value) in operation_of (o.word_bytes b.value) (o.fits_type b.value) (o.combination b.value)) c.args.ops.now.list.items in
    subst (λ v. EndSo ops c.args.script.now (map end_view v.items)) (sym c.in_ok-report.ensures.ends) c.in_ok-ends.ensures
