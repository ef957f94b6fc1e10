use Rattle.std.proofs.Common.{◌≡◌, ◌++◌, ◌/◌, ◌∙◌, ap, sym, length, rules}
use Rattle.std.specs.Int.{w16, to_be_bytes}
use Rattle.mpx_num.specs.Types.{item_len}
use Rattle.mpx_encode.proofs.Integers.{items_spelled}
use Rattle.mpx_encode.proofs.Maps.{written_behind}
use Rattle.mpx_encode.proofs.write_items.write_items.Goals as goal

pub returns : goal.returns
returns c =
    let items = c.args.items.now in
    let first : c.write_u16.new.out ≡ c.args.out.now ++ to_be_bytes w16 (length items.nums / item_len items.ty) = search rules in
    written_behind c.args.out.now c.write_u16.new.out c.write_bytes.new.out _ _ first c.in_ok-write_bytes.ensures
    ∙ ap (λ l. c.args.out.now ++ l) (sym (items_spelled items.ty items.nums))
