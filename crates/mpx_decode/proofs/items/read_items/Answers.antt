use Rattle.std.proofs.Common.{◌++◌, arith}
use Rattle.mpx_format.proofs.PostLaws.{item_count_laws}
use Rattle.mpx_decode.proofs.Integers.{items_near}
use Rattle.mpx_decode.proofs.NearBytes.{read_on}
use Rattle.mpx_decode.proofs.items.read_items.Goals as goal

pub returns-clause-read : goal.returns-clause-read
returns-clause-read c =
    let more = c.args.beyond.now in
    let count = read_on item_count_laws c.args.bytes.now c.in_ok-count.rest.now c.in_ok-count.count (λ i. omega (arith, c.type_inv.bytes i)) c.in_ok-count.ensures.read more in
    items_near c.read_numbers.result (λ x. x.0.nums) (λ x. x.1.now ++ c.read_numbers.new.beyond) c.args.ty (c.args.bytes.now ++ more) (c.in_ok-count.rest.now ++ more) more c.in_ok-count.count count (rw c.item_len.ensures.value at c.read_numbers.ensures.read)
