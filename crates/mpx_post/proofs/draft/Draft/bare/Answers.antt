use Rattle.std.proofs.Common.{◌≡◌, true, false}
use Rattle.mpx_post.proofs.Spelling.{is_stray, spelled, spelled_unmade, unspelled_numbers, unspelled_stray}
use Rattle.mpx_post.proofs.draft.Draft.bare.Goals as goal

pub returns-then-wrong-has_few_counts-clause-made : goal.returns-then-wrong-has_few_counts-clause-made
returns-then-wrong-has_few_counts-clause-made c =
    let stray : is_stray c.args.self ≡ true = rw (c.has_wrong_root.ensures, c.has_wrong_op.ensures, c.may_stand-stands.ensures, c.has_few_counts.ensures, c.has_making.ensures, c.fields-fields.ensures, c.kind.ensures) at c.if-wrong-has_few_counts.true in
    unspelled_stray c.args.self stray

pub returns-in-Ok-clause-made : goal.returns-in-Ok-clause-made
returns-in-Ok-clause-made c =
    let fine : is_stray c.args.self ≡ false = rw (c.has_wrong_root.ensures, c.has_wrong_op.ensures, c.may_stand-stands.ensures, c.has_few_counts.ensures, c.has_making.ensures, c.fields-fields.ensures, c.kind.ensures) at c.if-wrong-has_few_counts.false in
    spelled c.args.self fine c.in-Ok.post c.in-Ok.ensures

pub returns-in_default-clause-made : goal.returns-in_default-clause-made
returns-in_default-clause-made c = unspelled_numbers c.args.self c.in-Err.refusal c.in_default.not-OutOfMemory c.in-Err.ensures

pub returns-in-OutOfMemory-clause-memory : goal.returns-in-OutOfMemory-clause-memory
returns-in-OutOfMemory-clause-memory c =
    let fine : is_stray c.args.self ≡ false = rw (c.has_wrong_root.ensures, c.has_wrong_op.ensures, c.may_stand-stands.ensures, c.has_few_counts.ensures, c.has_making.ensures, c.fields-fields.ensures, c.kind.ensures) at c.if-wrong-has_few_counts.false in
    spelled_unmade c.args.self fine (rw c.in-OutOfMemory.is at c.in-Err.ensures)
