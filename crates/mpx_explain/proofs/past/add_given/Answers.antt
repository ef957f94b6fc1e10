use Rattle.std.proofs.Common.{Bool, [], refl, subst}
use Rattle.mpx_explain.specs.Sums.{AreCombined, posts_in, statements_in}
use Rattle.mpx_explain.proofs.Summing.{gives_drafted, gives_none, upto_more}
use Rattle.mpx_explain.proofs.past.add_given.Goals as goal

pub returns-in-Some : goal.returns-in-Some
returns-in-Some c =
    let row = c.args.row.now in
    upto_more row c.args.rank c.as_slice.result.now c.args.sums.now.items c.add.new.sums.items
    (gives_drafted (statements_in row) (posts_in row.posts.now) row.call c.args.rank c.in-Some.draft.now c.as_slice.result.now c.in-Some.ensures c.as_slice.ensures)
    (subst (λ (b : Bool). AreCombined b c.as_slice.result.now c.args.sums.now.items c.add.new.sums.items) c.is_product-is_product.ensures c.add.ensures)

pub returns-in-None : goal.returns-in-None
returns-in-None c =
    let row = c.args.row.now in
    upto_more row c.args.rank [] c.args.sums.now.items c.add-in-None.new.sums.items (gives_none (statements_in row) (posts_in row.posts.now) row.call c.args.rank c.in-None.ensures)
    (subst (λ (b : Bool). AreCombined b [] c.args.sums.now.items c.add-in-None.new.sums.items) c.is_product-is_product.ensures c.add-in-None.ensures)
