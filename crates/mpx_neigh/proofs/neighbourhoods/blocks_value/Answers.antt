use Rattle.std.proofs.Common.{◌≡◌, ◌∙◌, ◌*◌, ◌<◌, ◌++◌, length, take, drop, ap, sym, subst, arith}
use Rattle.mpx_num.specs.Types.{item_len}
use Rattle.mpx_num.specs.ItemList.{ItemList}
use Rattle.mpx_post.proofs.Agreement.{fine_with}
use Rattle.mpx_neigh.specs.Cursors.{AreTaken}
use Rattle.mpx_neigh.specs.Neighbourhoods.{block_met}
use Rattle.mpx_neigh.proofs.Sources.{flat_map_upto, part_is, part_within}
use Rattle.mpx_neigh.proofs.Taking.{none_taken}
use Rattle.mpx_neigh.proofs.neighbourhoods.blocks_value.Goals as goal

pub loop-place-init : goal.loop-place-init
loop-place-init c = record {
  ty = ap (λ (items : ItemList). items.ty) c.empty-items.ensures ∙ c.ty.ensures ∙ ap (λ (items : ItemList). items.ty) c.given.ensures;
  nums = ap (λ (items : ItemList). items.nums) c.empty-items.ensures;
  taken = subst (AreTaken c.args.topology.now c.args.row.now c.args.rank 0) (sym c.new-cursors.ensures) (none_taken c.args.topology.now c.args.row.now c.args.rank c.size.ensures.kept);
}

pub extend-requires-clause-within : goal.extend-requires-clause-within
extend-requires-clause-within c =
    let row = c.args.row.now in
    let read = c.from.ensures ∙ c.source_at-sender.ensures.value in
    let within : c.from.result < length row = (let e = c.from.ensures in let l = c.source_at-sender.ensures.rank in let s = c.requires.size in omega (arith, e, l, s)) in
    part_within c.args.topology.now row c.args.rank c.loop-place.place (fine_with _ row c.requires.fine) c.take-block.result c.take-block.ensures.block c.from.result read within c.given-in-loop-place.result.now c.given-in-loop-place.ensures

pub loop-place-preserved : goal.loop-place-preserved
loop-place-preserved c =
    let row = c.args.row.now in
    let read = c.from.ensures ∙ c.source_at-sender.ensures.value in
    let within : c.from.result < length row = (let e = c.from.ensures in let l = c.source_at-sender.ensures.rank in let s = c.requires.size in omega (arith, e, l, s)) in
    let ty = c.loop-place.items.ty in
    let block = c.take-block.result in
    let cut : take (block.count * item_len ty) (drop (block.first * item_len ty) c.given-in-loop-place.result.now.nums) ≡ block_met c.args.topology.now row c.args.rank c.loop-place.place =
    part_is c.args.topology.now row c.args.rank c.loop-place.place (fine_with _ row c.requires.fine) block c.take-block.ensures.block c.from.result read within c.given-in-loop-place.result.now c.given-in-loop-place.ensures ty c.loop-place.invariant.ty in
    record {
      ty = ap (λ (items : ItemList). items.ty) c.in_ok-extend.ensures.ok ∙ c.loop-place.invariant.ty;
      nums = ap (λ (items : ItemList). items.nums) c.in_ok-extend.ensures.ok ∙ (λ i. c.loop-place.invariant.nums i ++ cut i) ∙ flat_map_upto (block_met c.args.topology.now row c.args.rank) c.loop-place.place;
      taken = c.take-block.ensures.taken;
    }
