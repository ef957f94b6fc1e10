use Rattle.std.proofs.Common.{◌∙◌, ◌++◌, ap, sym}
use Rattle.mpx_num.specs.ItemList.{ItemList}
use Rattle.mpx_post.specs.Agreement.{post_at}
use Rattle.mpx_post.specs.Posts.{numbers_of}
use Rattle.mpx_post.proofs.Agreement.{same_type}
use Rattle.mpx_move.proofs.Places.{part_of}
use Rattle.mpx_move.proofs.moves.append_block.Goals as goal

pub extend-requires-clause-within : goal.extend-requires-clause-within
extend-requires-clause-within c =
    let within = c.block_of-block.ensures.within in
    let type = same_type c.args.row.now c.args.sender c.requires.fine c.requires.sender in
    rw (c.given.ensures, ← type) within

pub returns : goal.returns
returns c =
    let type = same_type c.args.row.now c.args.sender c.requires.fine c.requires.sender in
    let numbers = ap (λ (items : ItemList). items.nums) c.given.ensures in
    let block = part_of (post_at c.args.row.now c.args.sender) c.block_of-block.result c.args.items.now.ty c.given.result.now.nums (c.requires.ty ∙ sym type) numbers ∙ c.block_of-block.ensures.at (numbers_of (post_at c.args.row.now c.args.sender)) in
    c.in_ok-extend.ensures.ok ∙ λ i. record { ty = c.args.items.now.ty; nums = c.args.items.now.nums ++ block i }
