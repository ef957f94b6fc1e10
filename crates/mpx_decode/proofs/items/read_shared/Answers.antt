use Rattle.std.proofs.Common.{◌≡◌, ◌++◌, [], Ok, ap, length, sym, ◌∙◌}
use Rattle.std.specs.List.{flat_map}
use Rattle.mpx_num.specs.ItemList.{ItemList}
use Rattle.mpx_num.specs.Spelling.{bytes_of}
use Rattle.mpx_format.specs.Format.{many_read}
use Rattle.mpx_format.specs.Posts.{integer}
use Rattle.mpx_format.proofs.Integers.{numbers_stand}
use Rattle.mpx_decode.proofs.FrontPosts.{on_true}
use Rattle.mpx_decode.proofs.items.read_shared.Goals as goal

pub returns-in-Ok-clause-read : goal.returns-in-Ok-clause-read
returns-in-Ok-clause-read c =
    let items = c.in-Some.items.now in
    let left = c.in-Some.near.now ++ c.in-Some.after in
    let ty : items.ty ≡ c.args.ty = on_true _ c.if-not-are_so_many.false c.are_so_many.ensures.ty in
    let count : length items.nums ≡ c.args.count = on_true _ c.if-not-are_so_many.false c.are_so_many.ensures.count in
    let there : many_read (λ before. integer items.ty) (length items.nums) [] (flat_map (bytes_of items.ty) items.nums ++ left) ≡ Ok (items.nums, left) = numbers_stand items.ty [] items.nums left c.are_so_many.ensures.items.in_range in
    (λ i. many_read (λ before. integer (sym ty i)) (sym count i) [] (c.in-Some.ensures i)) ∙ there ∙ ap (λ (l : ItemList). Ok (l.nums, left)) (sym c.in-Ok.ensures)
