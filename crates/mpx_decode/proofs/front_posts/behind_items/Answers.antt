use Rattle.std.proofs.Common.{◌≡◌, ◌*◌, ◌++◌, ◌∙◌, ap, length, rules, arith}
use Rattle.mpx_num.specs.Types.{item_len}
use Rattle.mpx_format.proofs.PostLaws.{item_count_laws}
use Rattle.mpx_decode.proofs.FrontPosts.{bytes_behind}
use Rattle.mpx_decode.proofs.NearBytes.{read_on}
use Rattle.mpx_decode.proofs.front_posts.behind_items.Goals as goal

pub returns-then-count-items-clause-some : goal.returns-then-count-items-clause-some
returns-then-count-items-clause-some c =
    let items = c.args.items.now in
    let more = c.args.beyond.now in
    let same : c.in-Ok.count * item_len items.ty ≡ length items.nums = ap (λ n. n * item_len items.ty) (search rules) ∙ c.count-items.ensures.whole in
    let count = read_on item_count_laws c.args.bytes.now c.in-Ok.rest.now c.in-Ok.count (λ i. omega (arith, c.type_inv.bytes i)) c.in-Ok.ensures.read more in
    bytes_behind c.behind_bytes.result (λ x. x.now ++ c.behind_bytes.new.beyond) items.ty items.nums (c.args.bytes.now ++ more) (c.in-Ok.rest.now ++ more) c.bytes-spelled.result.now c.in-Ok.count count same c.bytes-spelled.ensures.spelling c.bytes-spelled.ensures.items.in_range c.behind_bytes.ensures.some
