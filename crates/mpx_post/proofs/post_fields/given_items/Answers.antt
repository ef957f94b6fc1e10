use Rattle.std.proofs.Common.{refl, ap, Err}
use Rattle.mpx_post.proofs.Refusals.{few_are_items, many_are_refused, strange_are_refused}
use Rattle.mpx_post.proofs.post_fields.given_items.Goals as goal

pub returns-in-Ok : goal.returns-in-Ok
returns-in-Ok c =
    let fine = c.in-Ok.ensures.ok.0 refl in
    rw (c.if-not-had.false, c.in-Ok.ensures.items) (few_are_items c.args.ty c.args.numbers _ fine.0 fine.1)

pub returns-in-Err-TooManyItems : goal.returns-in-Err-TooManyItems
returns-in-Err-TooManyItems c =
    let many = c.in-Err-TooManyItems.ensures.too_many.0 (ap Err c.in-Err-TooManyItems.field-0-is) in
    rw c.if-not-had.false (many_are_refused c.args.ty c.args.numbers _ many.0 many.1)

pub returns-in-Err-ItemOutOfRange : goal.returns-in-Err-ItemOutOfRange
returns-in-Err-ItemOutOfRange c =
    let strange = c.in-Err-ItemOutOfRange.ensures.out_of_range.0 (ap Err c.in-Err-ItemOutOfRange.field-0-is) in
    rw c.if-not-had.false (strange_are_refused c.args.ty c.args.numbers _ strange.0 strange.1)
