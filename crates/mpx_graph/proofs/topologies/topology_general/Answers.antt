use Rattle.std.proofs.Common.{◌≡◌, ◌∙◌, ◌++◌, ℕ, List, inl, inr, take, length, vec_len, ap, sym, subst, arith}
use Rattle.std.proofs.lemmas.Bool.{cases_eq}
use Rattle.std.proofs.lemmas.List.{take_all}
use Rattle.std.proofs.lemmas.Result.{IfOk-weaker}
use Rattle.mpx_birth.specs.declared.edges.Edge.{Edge}
use Rattle.mpx_birth.specs.Topologies.{is_topology}
use Rattle.mpx_post.specs.Graphs.{AreEdges}
use Rattle.mpx_post.specs.Posts.{Given, edges_of, weighted_of}
use Rattle.mpx_post.specs.Rows.{RowView}
use Rattle.mpx_post.specs.Agreement.{post_at}
use Rattle.mpx_graph.specs.Graphs.{all_edges, general, graph_among}
use Rattle.mpx_graph.proofs.Fine.{all_edges-more, edges-within}
use Rattle.mpx_graph.proofs.Made.{general-topology, given_of}
use Rattle.mpx_graph.proofs.Graphs.{graph-none}
use Rattle.mpx_graph.proofs.topologies.topology_general.Goals as goal

pub loop-rank-2-init : goal.loop-rank-2-init
loop-rank-2-init c =
    let long : vec_len c.loop-rank.ranks ≡ length c.args.row.now = omega arith in
    record {
      long = long;
      graph = graph-none (length c.args.row.now) c.loop-rank.ranks.items (omega arith) (λ k l. c.loop-rank.invariant.none k (omega arith));
      given = λ k l. absurd (omega arith);
    }

pub put_all-requires : goal.put_all-requires
put_all-requires c =
    record { within = edges-within c.args.row.now _ _ _ c.requires.fine (omega arith) c.loop-rank-2.invariant.long (c.edges.ensures.value ∙ ap edges_of c.post.ensures.value) }

pub loop-rank-2-preserved : goal.loop-rank-2-preserved
loop-rank-2-preserved c =
    let row = c.args.row.now in
    let rank = c.loop-rank-2.rank in
    let size : vec_len c.loop-rank-2.ranks ≡ length row = c.loop-rank-2.invariant.long in
    let there = ap edges_of c.post.ensures.value in
    let more = c.edges.ensures.value ∙ there in
    let before = all_edges (take rank row) in
    let further = all_edges-more row rank (omega arith) in
    let here : AreEdges (given_of (post_at row rank)) = subst (λ (given : Given). AreEdges (given_of given)) c.post.ensures.value c.edges.ensures.edges in
    let now : c.loop-rank-2.ranks.items ≡ graph_among (vec_len c.loop-rank-2.ranks) before = c.loop-rank-2.invariant.graph ∙ ap (λ (n : ℕ). graph_among n before) (sym size) in
    record {
      long = c.in_ok-put_all.ensures.long ∙ size;
      graph = c.in_ok-put_all.ensures.graph before now
          ∙ ap (λ (n : ℕ). graph_among n (before ++ c.edges.result.now)) size
          ∙ ap (graph_among (length row)) (ap (λ (es : List Edge). before ++ es) more ∙ sym further);
      given = λ k l. elim (cases_eq k rank) [
        | inl same ↦ subst (λ (n : ℕ). AreEdges (given_of (post_at row n))) (sym same) here
        | inr other ↦ c.loop-rank-2.invariant.given k (omega (arith, l, other))
      ];
    }

pub from_neighbours-requires : goal.from_neighbours-requires
unfolding general
from_neighbours-requires c =
    let row = c.args.row.now in
    let rank = c.loop-rank-2.rank in
    let all = take_all rank row (omega arith) in
    let whole = c.loop-rank-2.invariant.graph ∙ ap (λ (r : RowView). graph_among (length row) (all_edges r)) all in
    let weighted = c.weighted.ensures ∙ ap weighted_of c.post-2.ensures.value in
    ap is_topology (λ i. record { weighted = weighted i; ranks = whole i })
    ∙ general-topology row c.requires.fine (omega arith) (λ k l. c.loop-rank-2.invariant.given k (omega arith))

pub returns : goal.returns
unfolding general
returns c =
    let row = c.args.row.now in
    let whole = c.loop-rank-2.invariant.graph ∙ ap (λ (r : RowView). graph_among (length row) (all_edges r)) (take_all c.loop-rank-2.rank row (omega arith)) in
    let weighted = c.weighted.ensures ∙ ap weighted_of c.post-2.ensures.value in
    IfOk-weaker c.from_neighbours.result _ _ (λ topology is. is ∙ (λ i. record { weighted = weighted i; ranks = whole i })) c.from_neighbours.ensures
