use Rattle.std.proofs.Common.{◌≡◌, ◌∙◌, ◌++◌, ◌∷◌, [], ℕ, inl, inr, map, ap, sym, subst, arith}
use Rattle.std.proofs.lemmas.Bool.{cases_eq}
use Rattle.std.proofs.lemmas.List.{take_all}
use Rattle.std.proofs.lemmas.Result.{IfOk-weaker}
use Rattle.mpx_birth.specs.Topologies.{is_topology}
use Rattle.mpx_post.specs.Agreement.{post_at}
use Rattle.mpx_post.specs.Graphs.{AreNeighbours}
use Rattle.mpx_post.specs.Posts.{Given, weighted_of}
use Rattle.mpx_graph.specs.Graphs.{adjacent, near_given}
use Rattle.mpx_graph.proofs.Adjacent.{near_given-more}
use Rattle.mpx_graph.proofs.Made.{adjacent-topology, own_of}
use Rattle.mpx_graph.proofs.topologies.topology_adjacent.Goals as goal

pub loop-rank-preserved : goal.loop-rank-preserved
loop-rank-preserved c =
    let row = c.args.row.now in
    let rank = c.loop-rank.rank in
    let near : c.in_ok-copied.field-0 ≡ near_given c.post-post.result.now = c.in_ok-copied.ensures ∙ (λ i. record { sources = c.sources.ensures.value i; destinations = c.destinations.ensures.value i }) in
    let more : c.push.new.self.items ≡ c.loop-rank.ranks.items ++ c.in_ok-copied.field-0 ∷ [] = c.in_ok-push.ensures.items in
    let here : AreNeighbours (own_of (post_at row rank)) = subst (λ (given : Given). AreNeighbours (own_of given)) c.post-post.ensures.value c.sources.ensures.neighbours in
    record {
      graph = more
          ∙ (λ i. c.loop-rank.invariant.graph i ++ (near ∙ ap near_given c.post-post.ensures.value) i ∷ [])
          ∙ sym (near_given-more row rank (omega arith));
      own = λ k l. elim (cases_eq k rank) [
        | inl same ↦ subst (λ (n : ℕ). AreNeighbours (own_of (post_at row n))) (sym same) here
        | inr other ↦ c.loop-rank.invariant.own k (omega (arith, l, other))
      ];
    }

pub from_neighbours-requires : goal.from_neighbours-requires
unfolding adjacent
from_neighbours-requires c =
    let row = c.args.row.now in
    let whole = c.loop-rank.invariant.graph ∙ ap (map near_given) (take_all c.loop-rank.rank row (omega arith)) in
    let weighted = c.weighted.ensures ∙ ap weighted_of c.post.ensures.value in
    ap is_topology (λ i. record { weighted = weighted i; ranks = whole i })
    ∙ adjacent-topology row c.requires.fine (omega arith) (λ k l. c.loop-rank.invariant.own k (omega arith))

pub returns : goal.returns
unfolding adjacent
returns c =
    let whole = c.loop-rank.invariant.graph ∙ ap (map near_given) (take_all c.loop-rank.rank c.args.row.now (omega arith)) in
    let weighted = c.weighted.ensures ∙ ap weighted_of c.post.ensures.value in
    IfOk-weaker c.from_neighbours.result _ _ (λ topology is. is ∙ (λ i. record { weighted = weighted i; ranks = whole i })) c.from_neighbours.ensures
