use Rattle.mpx_explain.proofs.RefusedTexts.{passed_over, told_unless}
use Rattle.mpx_explain.proofs.lines.push_line.Goals as goal

pub returns-then-is_passed-clause-told : goal.returns-then-is_passed-clause-told
returns-then-is_passed-clause-told g c = passed_over c.args.manner.is_passed c.args.manner.with_refusal c.args.refusal c.args.told.now.items c.if-is_passed.true (c.requires c.if-is_passed.true)

pub returns-clause-told : goal.returns-clause-told
returns-clause-told g c = told_unless c.args.manner.is_passed c.args.manner.with_refusal c.args.refusal c.args.told.now.items c.push_refused.new.told.items c.push_refused.result c.if-is_passed.false c.push_refused.ensures.told
