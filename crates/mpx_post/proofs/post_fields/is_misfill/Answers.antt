use Rattle.std.proofs.Common.{◌≡◌, ◌∙◌, ◌*◌, ap, sym, sum, true, refl, arith}
use Rattle.std.specs.List.{list_all}
use Rattle.mpx_post.specs.Blocks.{repeated}
use Rattle.mpx_post.specs.Drafts.{is_count, natural, naturals}
use Rattle.mpx_post.proofs.Sums.{map-repeated, sum-repeated, list_all-repeated}
use Rattle.mpx_post.proofs.post_fields.is_misfill.Goals as goal

pub returns : goal.returns
returns c =
    let times = c.args.times in
    let counts = c.args.counts.now in
    let all : list_all is_count (repeated times counts) ≡ true = list_all-repeated is_count times counts (omega arith) ∙ sym c.are_counts.ensures ∙ c.if-not-are_counts.false in
    let blocks : sum (naturals (repeated times counts)) ≡ times * c.total.result = ap sum (map-repeated natural times counts) ∙ sum-repeated times (naturals counts) ∙ ap (λ n. times * n) (sym c.total.ensures.value) in
    rw (all, blocks, c.item_len.ensures.value) refl
