use Rattle.std.proofs.Common.{◌≡◌, ℕ, List, Option, arith, inl, inr, map, refl, subst, ◌∙◌}
use Rattle.std.specs.Prelude.{IfNone, IfSome, nat_lt}
use Rattle.mpx_num.specs.Own.{operation_of}
use Rattle.mpx_num.specs.declared.own.Operation.{Operation}
use Rattle.mpx_script.specs.Reading.{reading}
use Rattle.mpx_explain.specs.RefusedLines.{IsLastTold, IsLineTold, left_after, without_refused}
use Rattle.mpx_explain.specs.declared.lines.LeftText.{LeftText}
use Rattle.mpx_explain.proofs.RefusedTexts.{further_keep, further_told, keeps_same, keeps_then, last_keeps, left_more, lines_keep, lines_more, most_more, no_lines, refusals_told}
use Rattle.mpx_explain.proofs.lines.push_refusals.Goals as goal

pub returns-in_err-rest-clause-keeps : goal.returns-in_err-rest-clause-keeps
returns-in_err-rest-clause-keeps g c = keeps_same c.args.told.now.items c.args.told.now.items refl

pub returns-in_err-left-clause-keeps : goal.returns-in_err-left-clause-keeps
returns-in_err-left-clause-keeps g c =
    let ops : List Operation = (map (λ b. let o = goal.OwnOp-dyn g (b.vtable, b.value) in operation_of (o.word_bytes b.value) (o.fits_type b.value) (o.combination b.value)) c.args.ops.now.list.items) in
    let had = c.loop-nth.told.items in
    keeps_then c.args.told.now.items had c.explain_refusal.new.told.items (lines_keep ops c.args.text.now c.loop-nth.nth c.loop-nth.many c.args.told.now.items had c.loop-nth.invariant.each) (keeps_same had c.explain_refusal.new.told.items c.in_err-left.ensures.err)

pub returns-in-None : goal.returns-in-None
returns-in-None g c =
    let ops : List Operation = (map (λ b. let o = goal.OwnOp-dyn g (b.vtable, b.value) in operation_of (o.word_bytes b.value) (o.fits_type b.value) (o.combination b.value)) c.args.ops.now.list.items) in
    let n = c.loop-nth.nth in
    let many = c.loop-nth.many in
    let had = c.loop-nth.told.items in
    let new = c.explain_refusal.new.told.items in
    let rest = c.deref-in-loop-nth.result.now in
    let end : IsLastTold (reading ops rest) had new = subst (λ (o : Option LeftText). IfNone o (IsLastTold (reading ops rest) had new)) c.in-None.is c.in_ok-left.ensures.end in
    record {
      keeps = keeps_then c.args.told.now.items had new (lines_keep ops c.args.text.now n many c.args.told.now.items had c.loop-nth.invariant.each) (last_keeps (reading ops rest) had new end);
      told = refusals_told ops c.args.text.now n many rest c.args.told.now.items had new (c.deref-in-loop-nth.ensures.value ∙ c.loop-nth.invariant.rest) (omega (arith, c.loop-nth-test.true)) c.loop-nth.invariant.most c.loop-nth.invariant.each (inl end);
    }

pub loop-nth-preserved : goal.loop-nth-preserved
loop-nth-preserved g c =
    let ops : List Operation = (map (λ b. let o = goal.OwnOp-dyn g (b.vtable, b.value) in operation_of (o.word_bytes b.value) (o.fits_type b.value) (o.combination b.value)) c.args.ops.now.list.items) in
    let n = c.loop-nth.nth in
    let many = c.loop-nth.many in
    let had = c.loop-nth.told.items in
    let new = c.explain_refusal.new.told.items in
    let rest = c.deref-in-loop-nth.result.now in
    let passed = c.in-Some.left.is_passed in
    let left : rest ≡ left_after ops c.args.text.now n = c.deref-in-loop-nth.ensures.value ∙ c.loop-nth.invariant.rest in
    let line : IsLineTold passed (nat_lt 0 n) (reading ops rest) had new = subst (λ (o : Option LeftText). IfSome o (λ it. IsLineTold it.is_passed (nat_lt 0 n) (reading ops rest) had new)) c.in-Some.is c.in_ok-left.ensures.told in
    let behind : c.in-Some.left.text.items ≡ without_refused (reading ops rest) rest = subst (λ (o : Option LeftText). IfSome o (λ it. it.text.items ≡ without_refused (reading ops rest) rest)) c.in-Some.is c.in_ok-left.ensures.left in
    record {
      rest = left_more ops c.args.text.now n rest c.in-Some.left.text.items left behind;
      each = lines_more ops c.args.text.now n many c.with_one-many.result passed rest c.args.told.now.items had new left c.loop-nth.invariant.each c.with_one-many.ensures line;
      most = most_more passed many c.with_one-many.result (omega (arith, c.loop-nth.invariant.most, c.if-many-eq-MOST_LINES.false)) c.with_one-many.ensures;
    }

pub returns-then-many-eq-MOST_LINES : goal.returns-then-many-eq-MOST_LINES
returns-then-many-eq-MOST_LINES g c =
    let ops : List Operation = (map (λ b. let o = goal.OwnOp-dyn g (b.vtable, b.value) in operation_of (o.word_bytes b.value) (o.fits_type b.value) (o.combination b.value)) c.args.ops.now.list.items) in
    let n = c.loop-nth.nth in
    let many = c.loop-nth.many in
    let had = c.loop-nth.told.items in
    let new = c.push_whether_more.new.told.items in
    let rest = c.deref.result.now in
    record {
      keeps = further_keep ops c.args.text.now n many rest c.args.told.now.items had new c.push_whether_more.result c.loop-nth.invariant.each c.push_whether_more.ensures.told c.push_whether_more.ensures.err;
      told = further_told ops c.args.text.now n many rest c.args.told.now.items had new c.push_whether_more.result (c.deref.ensures.value ∙ c.loop-nth.invariant.rest) (omega (arith, c.loop-nth-test.true)) c.loop-nth.invariant.most (inl (omega (arith, c.if-many-eq-MOST_LINES.true))) c.loop-nth.invariant.each c.push_whether_more.ensures.told;
    }

pub returns : goal.returns
returns g c =
    let ops : List Operation = (map (λ b. let o = goal.OwnOp-dyn g (b.vtable, b.value) in operation_of (o.word_bytes b.value) (o.fits_type b.value) (o.combination b.value)) c.args.ops.now.list.items) in
    let n = c.loop-nth.nth in
    let many = c.loop-nth.many in
    let had = c.loop-nth.told.items in
    let new = c.push_whether_more-2.new.told.items in
    let rest = c.deref-2.result.now in
    record {
      keeps = further_keep ops c.args.text.now n many rest c.args.told.now.items had new c.push_whether_more-2.result c.loop-nth.invariant.each c.push_whether_more-2.ensures.told c.push_whether_more-2.ensures.err;
      told = further_told ops c.args.text.now n many rest c.args.told.now.items had new c.push_whether_more-2.result (c.deref-2.ensures.value ∙ c.loop-nth.invariant.rest) (omega (arith, c.loop-nth-test.false, c.loop-nth.auto.nth-end)) c.loop-nth.invariant.most (inr (omega (arith, c.loop-nth-test.false, c.loop-nth.auto.nth-end))) c.loop-nth.invariant.each c.push_whether_more-2.ensures.told;
    }
