use Rattle.std.proofs.Common.{◌≡◌, ◌∙◌, ℕ, List, Some, length, take, get_or, sum, ap, sym, subst, arith}
use Rattle.std.proofs.lemmas.List.Sums.{sum_by-le}
use Rattle.mpx_birth.specs.Topologies.{destinations_at}
use Rattle.mpx_post.specs.Blocks.{repeated}
use Rattle.mpx_post.specs.Agreement.{counts_sent, post_at}
use Rattle.mpx_post.specs.Posts.{Given, most_items}
use Rattle.mpx_kind.specs.declared.kinds.Kind.TheVariants as K
use Rattle.mpx_neigh.specs.Cursors.{AreTaken}
use Rattle.mpx_neigh.proofs.Senders.{one_count, one_for_all, own_counts, same_counts}
use Rattle.mpx_neigh.proofs.Taking.{equal_placed, placed, step}
use Rattle.mpx_neigh.proofs.cursors.Cursors.take.Goals.{in-Alltoallv, in_default}
use Rattle.mpx_neigh.proofs.cursors.Cursors.take.Goals as goal

pub counted_block-block-requires : goal.counted_block-block-requires
counted_block-block-requires c =
    let taken = subst (AreTaken c.args.topology.now c.args.row.now c.args.rank c.args.place) (sym c.self.view_is) c.requires.taken in
    let known = step c.args.topology.now c.args.row.now c.args.exchange c.requires.fine c.requires.size c.requires.kind c.requires.blocks c.args.rank c.args.place c.destinations.ensures.agree c.requires.few c.requires.place _ taken c.args.sender c.meet-sent.result c.destinations.result.now c.requires.sender c.destinations.ensures.value c.meet-sent.ensures.place in
    let read = c.as_slice-counts.ensures.value ∙ c.scounts.ensures ∙ ap (λ (given : Given). given.scounts) (c.post.ensures.value ∙ ap (post_at c.args.row.now) c.from-index.ensures) in
    let own : c.as_slice-counts.result.now ≡ counts_sent (Some c.args.topology.now) c.args.row.now c.args.sender = read ∙ sym (own_counts c.args.topology.now c.args.row.now c.args.sender c.requires.fine c.requires.rank (c.requires.kind ∙ ap K.Neighbourhood c.in-Alltoallv.is)) in
    record {
      next = (let n = c.next-next.ensures in let s = c.meet-sent.ensures.place in omega (arith, n, s));
      place = (let same = ap length own in let within = known.within in omega (arith, same, within));
      before =
          ap (λ (n : ℕ). get_or c.self.inside.before n 0) c.from-index.ensures
          ∙ taken.before c.args.sender (let l = c.requires.rank in let few = c.requires.few in omega (arith, l, few))
          ∙ sym (λ i. sum (take (c.next-next.ensures i) (own i)));
      few = (let most = sum_by-le (λ n. n) most_items c.as_slice-counts.result.now c.as_slice-counts.ensures.small in let few = c.as_slice-counts.ensures.few in omega (arith, most, few));
    }

pub equal_block-block-requires : goal.equal_block-block-requires
equal_block-block-requires c =
    let taken = subst (AreTaken c.args.topology.now c.args.row.now c.args.rank c.args.place) (sym c.self.view_is) c.requires.taken in
    let known = step c.args.topology.now c.args.row.now c.args.exchange c.requires.fine c.requires.size c.requires.kind c.requires.blocks c.args.rank c.args.place c.destinations.ensures.agree c.requires.few c.requires.place _ taken c.args.sender c.meet-sent.result c.destinations.result.now c.requires.sender c.destinations.ensures.value c.meet-sent.ensures.place in
    let read = c.as_slice-counts.ensures.value ∙ c.scounts.ensures ∙ ap (λ (given : Given). given.scounts) (c.post.ensures.value ∙ ap (post_at c.args.row.now) c.from-index.ensures) in
    let all = c.requires.kind ∙ ap K.Neighbourhood (one_for_all c.args.exchange c.requires.blocks c.in_default.not-Alltoallv) in
    record {
      one = ap length read ∙ one_count c.args.topology.now c.args.row.now c.args.sender c.requires.fine c.requires.rank all;
      small = c.as_slice-counts.ensures.small;
      place = (let w = known.within in let d = known.degree in let e = ap length c.destinations.ensures.value in let few = c.destinations.ensures.few in omega (arith, w, d, e, few));
    }

pub returns : goal.returns
returns c =
    let taken = subst (AreTaken c.args.topology.now c.args.row.now c.args.rank c.args.place) (sym c.self.view_is) c.requires.taken in
    let known = step c.args.topology.now c.args.row.now c.args.exchange c.requires.fine c.requires.size c.requires.kind c.requires.blocks c.args.rank c.args.place c.destinations.ensures.agree c.requires.few c.requires.place _ taken c.args.sender c.meet-sent.result c.destinations.result.now c.requires.sender c.destinations.ensures.value c.meet-sent.ensures.place in
    let read = c.as_slice-counts.ensures.value ∙ c.scounts.ensures ∙ ap (λ (given : Given). given.scounts) (c.post.ensures.value ∙ ap (post_at c.args.row.now) c.from-index.ensures) in
    let at : c.match-exchange.block ≡ placed (counts_sent (Some c.args.topology.now) c.args.row.now c.args.sender) c.meet-sent.result = elim c.match-exchange.branch [
      | in-Alltoallv w ↦
          let own = read ∙ sym (own_counts c.args.topology.now c.args.row.now c.args.sender c.requires.fine c.requires.rank (c.requires.kind ∙ ap K.Neighbourhood w.in-Alltoallv.is)) in
          w.block-is ∙ w.counted_block-block.ensures.value ∙ ap (λ (counts : List ℕ). placed counts c.meet-sent.result) own
      | in_default w ↦
          let all = c.requires.kind ∙ ap K.Neighbourhood (one_for_all c.args.exchange c.requires.blocks w.in_default.not-Alltoallv) in
          let one = ap length read ∙ one_count c.args.topology.now c.args.row.now c.args.sender c.requires.fine c.requires.rank all in
          let same = ap (repeated (length (destinations_at c.args.topology.now c.args.sender))) read ∙ sym (same_counts c.args.topology.now c.args.row.now c.args.sender c.requires.fine c.requires.rank all) in
          w.block-is ∙ w.equal_block-block.ensures.value
          ∙ equal_placed (length (destinations_at c.args.topology.now c.args.sender)) c.as_slice-counts.result.now c.meet-sent.result one (let w = known.within in let d = known.degree in omega (arith, w, d))
          ∙ ap (λ (counts : List ℕ). placed counts c.meet-sent.result) same
    ] in
    let more = known.taken c.match-exchange.block at in
    record {
      block = known.block c.match-exchange.block at;
      taken = rw (c.meet-sent.ensures.after, c.from-index.ensures) more;
    }
