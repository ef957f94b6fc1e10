use Rattle.std.proofs.Common.{List, [], map, nat_lt, refl, sym, ◌∙◌}
use Rattle.mpx_num.specs.Own.{operation_of}
use Rattle.mpx_num.specs.declared.own.Operation.{Operation}
use Rattle.mpx_script.specs.Reading.{reading}
use Rattle.mpx_explain.proofs.RefusedTexts.{last_unrefused, last_with, line_left, line_told}
use Rattle.mpx_explain.proofs.lines.explain_refusal.Goals as goal

pub returns-in_default-clause-end : goal.returns-in_default-clause-end
returns-in_default-clause-end g c =
    let ops : List Operation = (map (λ b. let o = goal.OwnOp-dyn g (b.vtable, b.value) in operation_of (o.word_bytes b.value) (o.fits_type b.value) (o.combination b.value)) c.args.ops.now.list.items) in
    last_unrefused (reading ops c.args.text.now) c.args.told.now.items c.args.told.now.items (sym c.in_default.is ∙ c.in_ok-refusal.ensures) refl

pub returns-then-ends_all-clause-end : goal.returns-then-ends_all-clause-end
returns-then-ends_all-clause-end g c =
    let ops : List Operation = (map (λ b. let o = goal.OwnOp-dyn g (b.vtable, b.value) in operation_of (o.word_bytes b.value) (o.fits_type b.value) (o.combination b.value)) c.args.ops.now.list.items) in
    last_with (reading ops c.args.text.now) c.in-Some.refusal c.ends_all.result c.args.told.now.items c.push_last.new.told.items (sym c.in-Some.is ∙ c.in_ok-refusal.ensures) c.ends_all.ensures c.if-ends_all.true c.in_ok-push_last.ensures.told

pub returns-clause-told : goal.returns-clause-told
returns-clause-told g c =
    let ops : List Operation = (map (λ b. let o = goal.OwnOp-dyn g (b.vtable, b.value) in operation_of (o.word_bytes b.value) (o.fits_type b.value) (o.combination b.value)) c.args.ops.now.list.items) in
    line_told (reading ops c.args.text.now) c.in-Some.refusal c.in_ok-is_passed.is_passed (nat_lt 0 c.args.nth) c.args.told.now.items c.push_line.new.told.items (sym c.in-Some.is ∙ c.in_ok-refusal.ensures) c.in_ok-push_line.ensures.told

pub returns-clause-left : goal.returns-clause-left
returns-clause-left g c =
    let ops : List Operation = (map (λ b. let o = goal.OwnOp-dyn g (b.vtable, b.value) in operation_of (o.word_bytes b.value) (o.fits_type b.value) (o.combination b.value)) c.args.ops.now.list.items) in
    line_left (reading ops c.args.text.now) c.in-Some.refusal c.args.text.now [] c.in_ok-left.left.items (sym c.in-Some.is ∙ c.in_ok-refusal.ensures) refl c.in_ok-left.ensures
