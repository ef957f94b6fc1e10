use Rattle.std.proofs.Common.{[], ◌∷◌, sym, ap, ◌∙◌}
use Rattle.std.specs.Option.{option_map}
use Rattle.mpx_kind.specs.Kinds.{fields_of}
use Rattle.mpx_encode.proofs.Maps.{told_as}
use Rattle.mpx_num.specs.ItemList.{ItemList}
use Rattle.mpx_format.specs.Codes.{when}
use Rattle.mpx_num.specs.Codes.{code_of_type}
use Rattle.mpx_format.specs.Posts.{type_for}
use Rattle.mpx_encode.proofs.Posts.{when_some}
use Rattle.mpx_format.proofs.SpelledPosts.{type_spelled}
use Rattle.mpx_encode.proofs.write_posts.write_type.Goals as goal

pub returns-in-Some : goal.returns-in-Some
returns-in-Some c =
    let g = c.args.given.now in
    let had = (fields_of g.kind).items in
    let i = c.in-Some.items.now in
    let code = ap (λ n. n ∷ []) (c.code.ensures ∙ ap code_of_type c.ty.ensures) in
    told_as c.write_u8.result c.args.out.now c.write_u8.new.out _ _
    (code ∙ sym (ap (λ o. (when had (type_for g.op)).spelling (option_map (λ (x : ItemList). x.ty) o)) (sym c.in-Some.ensures.value) ∙ when_some had (type_for g.op) i.ty c.in-Some.ensures.there ∙ type_spelled g.op i.ty))
    c.write_u8.ensures
