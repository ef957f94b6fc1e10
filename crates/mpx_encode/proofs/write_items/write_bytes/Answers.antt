use Rattle.std.proofs.Common.{◌∙◌, sym}
use Rattle.mpx_format.proofs.Integers.{integers_are}
use Rattle.mpx_encode.proofs.Maps.{told_as}
use Rattle.mpx_encode.proofs.write_items.write_bytes.Goals as goal

pub returns-then-bytes-lt-FEWEST_SHARED : goal.returns-then-bytes-lt-FEWEST_SHARED
returns-then-bytes-lt-FEWEST_SHARED c =
    let items = c.args.items.now in
    let same = sym (integers_are items.ty items.nums c.bytes-bytes.ensures.items.in_range) in
    told_as c.extend_from_slice.result _ _ _ _ (c.bytes-bytes.ensures.spelling ∙ same) c.extend_from_slice.ensures.ok

pub returns-else-bytes-lt-FEWEST_SHARED : goal.returns-else-bytes-lt-FEWEST_SHARED
returns-else-bytes-lt-FEWEST_SHARED c =
    let items = c.args.items.now in
    let same = sym (integers_are items.ty items.nums c.bytes-bytes.ensures.items.in_range) in
    told_as c.push_items.result _ _ _ _ same c.push_items.ensures.ok
