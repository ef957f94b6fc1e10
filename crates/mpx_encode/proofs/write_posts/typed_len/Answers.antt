use Rattle.std.proofs.Common.{length, sym, ap, ◌∙◌, arith}
use Rattle.std.specs.Option.{option_map}
use Rattle.mpx_kind.specs.Kinds.{fields_of}
use Rattle.mpx_num.specs.ItemList.{ItemList}
use Rattle.mpx_format.specs.Codes.{when}
use Rattle.mpx_format.specs.Posts.{type_for, items_for, nums_of}
use Rattle.mpx_encode.proofs.Posts.{when_some}
use Rattle.mpx_format.proofs.SpelledPosts.{type_spelled}
use Rattle.mpx_encode.proofs.write_posts.typed_len.Goals as goal

pub returns-in-Some-clause-value : goal.returns-in-Some-clause-value
returns-in-Some-clause-value c =
    let g = c.args.given.now in
    let had = (fields_of g.kind).items in
    let i = c.in-Some.items.now in
    let type = ap (λ o. length ((when had (type_for g.op)).spelling (option_map (λ (x : ItemList). x.ty) o))) (sym c.in-Some.ensures.value) ∙ ap length (when_some had (type_for g.op) i.ty c.in-Some.ensures.there ∙ type_spelled g.op i.ty) in
    let items = ap (λ o. length ((items_for (option_map (λ (x : ItemList). x.ty) o)).spelling (nums_of o))) (sym c.in-Some.ensures.value) in
    omega (arith, type, items, c.items_len.ensures.value)
