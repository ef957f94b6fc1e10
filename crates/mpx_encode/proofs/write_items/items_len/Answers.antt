use Rattle.std.proofs.Common.{◌+◌, sym, ap, ◌∙◌}
use Rattle.mpx_encode.proofs.Integers.{length-items}
use Rattle.mpx_encode.proofs.write_items.items_len.Goals as goal

pub returns-clause-value : goal.returns-clause-value
returns-clause-value c =
    let items = c.args.items.now in
    ap (λ n. 2 + n) c.bytes.ensures.len ∙ sym (length-items items.ty items.nums)
