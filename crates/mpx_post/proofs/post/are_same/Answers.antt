use Rattle.std.proofs.lemmas.Bool.Decides.{same_from_decides}
use Rattle.mpx_post.specs.Equality.{same_items, items_decided}
use Rattle.mpx_post.proofs.post.are_same.Goals as goal

pub returns-in-Some-Some : goal.returns-in-Some-Some
returns-in-Some-Some c =
    let left = c.in-Some-Some.left.now in
    let right = c.in-Some-Some.right.now in
    rw (c.in-Some-Some.is-0, c.in-Some-Some.is-1) (same_from_decides c.same.result (same_items left right) c.same.ensures (items_decided left right))
