-- The graphs that fine rows make are topologies.
use Rattle.std.proofs.Common.{◌≡◌, ℕ, ◌*◌, ◌<◌, ◌≤◌, ◌==◌, Bool, true, false, List, get_or, length, map, refl, ap, subst, ◌∙◌, arith}
use Rattle.std.specs.Prelude.{◌^◌, nat_lt}
use Rattle.std.specs.List.{All, filter, list_all, sum, sum_by}
use Rattle.std.proofs.lemmas.Bool.{and_from, eq-eqb, le-leb, lt-ltb}
use Rattle.std.proofs.lemmas.List.{length-map}
use Rattle.std.proofs.lemmas.List.Concat.{length-flat_map}
use Rattle.std.proofs.lemmas.List.Elements.{All-filter, All-from_get_or, All-map, All-weaker}
use Rattle.std.proofs.lemmas.List.Folds.{list_all-map}
use Rattle.std.proofs.lemmas.List.Sums.{list_all-from_AllPass, sum-map, sum_by-le}
use Rattle.std.proofs.lemmas.Simd.{map-map}
use Rattle.mpx_birth.specs.declared.edges.Edge.{Edge}
use Rattle.mpx_birth.specs.declared.edges.Neighbour.{Neighbour}
use Rattle.mpx_birth.specs.Edges.{destination_of, destinations_among, source_of, sources_among}
use Rattle.mpx_birth.specs.Orders.{upto}
use Rattle.mpx_birth.specs.Topologies.{Near, destinations_in_all, is_near, fits_neighbour, is_topology, fits_weight, sources_in_all}
use Rattle.mpx_birth.proofs.Kept.{AreBelow, paired-from, topology-from}
use Rattle.mpx_post.specs.Graphs.{AreEdges, AreNeighbours, EdgesView, IsEdge, IsNeighbour, IsWeight, NeighboursView, most_edges}
use Rattle.mpx_post.specs.Posts.{Given, destinations_of, edges_of, nothing_given, sources_of, weighted_of}
use Rattle.mpx_post.specs.Rows.{RowView}
use Rattle.mpx_post.specs.Agreement.{IsFine, first_of, post_at}
use Rattle.mpx_graph.specs.Graphs.{IsEdgeBetween, adjacent, all_edges, general, graph_among, near_among, near_given}
use Rattle.mpx_graph.proofs.Adjacent.{adjacent-agrees}
use Rattle.mpx_graph.proofs.Counting.{count-length, counts-below}
use Rattle.mpx_graph.proofs.Fine.{All-all_edges, all_edges-between, destinations-below, sources-below}
use Rattle.mpx_graph.proofs.Graphs.{graph-agrees, length-graph}

-- WEIGHTS

weight-passes : (weighted : Bool) (weight : ℕ) → IsWeight weighted weight → fits_weight weighted weight ≡ true
weight-passes true weight l = lt-ltb weight (2 ^ 31) l
weight-passes false weight e = eq-eqb weight 0 e

neighbour-passes : (size : ℕ) (weighted : Bool) (n : Neighbour) → n.rank < size → fits_weight weighted n.weight ≡ true → fits_neighbour size weighted n ≡ true
neighbour-passes size weighted n l w = and_from _ _ (lt-ltb n.rank size l) w

neighbours-pass : (size : ℕ) (weighted : Bool) (ns : List Neighbour) → AreBelow size ns → All (IsNeighbour weighted) ns → list_all (fits_neighbour size weighted) ns ≡ true
neighbours-pass size weighted ns below are =
    list_all-from_AllPass (fits_neighbour size weighted) ns
    (λ k d l. neighbour-passes size weighted _ (below k d l) (weight-passes weighted _ ((are k d l).weight)))

-- SUMS

sum-twice : {A B : Type 0} (f : B → ℕ) (g : A → B) (xs : List A) → sum (map f (map g xs)) ≡ sum_by (λ x. f (g x)) xs
sum-twice f g xs = ap sum (map-map f g xs) ∙ sum-map (λ x. f (g x)) xs

-- THE MEMBERS' OWN NEIGHBOURS

-- what a post names
abbrev pub own_of : Given → NeighboursView
own_of given = record { weighted = weighted_of given; sources = sources_of given; destinations = destinations_of given }

module _ (row : RowView) (fine : IsFine row) (few : length row ≤ 64) (own : (rank : ℕ) → rank < length row → AreNeighbours (own_of (post_at row rank))) where
  near-passes : (rank : ℕ) → rank < length row → is_near (length row) (weighted_of (first_of row)) (near_given (post_at row rank)) ≡ true
  near-passes rank l =
      let same = (fine.with.each rank l).weights in
      and_from _ _
      (neighbours-pass (length row) _ _ (sources-below row fine rank l) (subst (λ (w : Bool). All (IsNeighbour w) (sources_of (post_at row rank))) same ((own rank l).sources)))
      (neighbours-pass (length row) _ _ (destinations-below row fine rank l) (subst (λ (w : Bool). All (IsNeighbour w) (destinations_of (post_at row rank))) same ((own rank l).destinations)))

  all-pass : list_all (is_near (length row) (weighted_of (first_of row))) (map near_given row) ≡ true
  all-pass =
      list_all-map (is_near (length row) (weighted_of (first_of row))) near_given row
      ∙ list_all-from_AllPass (λ (given : Given). is_near (length row) (weighted_of (first_of row)) (near_given given)) row
      (All-from_get_or (λ (given : Given). is_near (length row) (weighted_of (first_of row)) (near_given given) ≡ true) row nothing_given near-passes)

  sources-few : sources_in_all (map near_given row) ≤ length row * most_edges
  sources-few = omega (
    arith,
    sum-twice (λ (near : Near). length near.sources) near_given row,
    sum_by-le (λ (given : Given). length (sources_of given)) most_edges row
        (All-from_get_or (λ (given : Given). length (sources_of given) ≤ most_edges) row nothing_given (λ k l. let few = (own k l).few in omega arith)),
  )

  destinations-few : destinations_in_all (map near_given row) ≤ length row * most_edges
  destinations-few = omega (
    arith,
    sum-twice (λ (near : Near). length near.destinations) near_given row,
    sum_by-le (λ (given : Given). length (destinations_of given)) most_edges row
        (All-from_get_or (λ (given : Given). length (destinations_of given) ≤ most_edges) row nothing_given (λ k l. let few = (own k l).few in omega arith)),
  )

  pub adjacent-topology : is_topology (adjacent row) ≡ true
  unfolding adjacent
  adjacent-topology =
      let long = length-map row near_given in
      topology-from (record { weighted = weighted_of (first_of row); ranks = map near_given row }) (record {
        few = le-leb _ _ (omega (arith, long, few));
        near = ap (λ (n : ℕ). list_all (is_near n (weighted_of (first_of row))) (map near_given row)) long ∙ all-pass;
        sources = le-leb _ _ (omega (arith, sources-few, few));
        destinations = le-leb _ _ (omega (arith, destinations-few, few));
        paired = paired-from (map near_given row) (adjacent-agrees row fine);
      })

-- ANY EDGES

-- what a post gives
abbrev pub given_of : Given → EdgesView
given_of given = record { weighted = weighted_of given; edges = edges_of given }

module _ (row : RowView) (fine : IsFine row) (few : length row ≤ 64) (given : (rank : ℕ) → rank < length row → AreEdges (given_of (post_at row rank))) where
  weights : All (λ (e : Edge). fits_weight (weighted_of (first_of row)) e.weight ≡ true) (all_edges row)
  weights = All-all_edges (λ (e : Edge). fits_weight (weighted_of (first_of row)) e.weight ≡ true) row (λ k l.
      All-weaker (IsEdge (weighted_of (post_at row k))) (λ (e : Edge). fits_weight (weighted_of (first_of row)) e.weight ≡ true)
      (λ e is. weight-passes _ e.weight (subst (λ (w : Bool). IsWeight w e.weight) ((fine.with.each k l).weights) is.weight))
      (edges_of (post_at row k)) ((given k l).each))

  ends-pass : (end : Edge → Neighbour) → ((e : Edge) → IsEdgeBetween (length row) e → (end e).rank < length row) → ((e : Edge) → (end e).weight ≡ e.weight) → (p : Edge → Bool)
      → list_all (fits_neighbour (length row) (weighted_of (first_of row))) (map end (filter p (all_edges row))) ≡ true
  ends-pass end below same p =
      list_all-from_AllPass (fits_neighbour (length row) (weighted_of (first_of row))) (map end (filter p (all_edges row)))
      (All-map (λ n. fits_neighbour (length row) (weighted_of (first_of row)) n ≡ true) end (filter p (all_edges row))
      (All-filter p (λ e. fits_neighbour (length row) (weighted_of (first_of row)) (end e) ≡ true) (all_edges row)
      (λ k d l. let e : Edge = get_or (all_edges row) k d in
      neighbour-passes (length row) (weighted_of (first_of row)) (end e) (below e (all_edges-between row fine k d l)) (ap (fits_weight (weighted_of (first_of row))) (same e) ∙ weights k d l))))

  among-pass : (rank : ℕ) → is_near (length row) (weighted_of (first_of row)) (near_among (all_edges row) rank) ≡ true
  among-pass rank =
      and_from _ _
      (ends-pass source_of (λ e is. is.source) (λ e. refl) (λ (e : Edge). e.destination == rank))
      (ends-pass destination_of (λ e is. is.destination) (λ e. refl) (λ (e : Edge). e.source == rank))

  edges-few : length (all_edges row) ≤ length row * most_edges
  edges-few = omega (
    arith,
    length-flat_map edges_of row,
    sum_by-le (λ (g : Given). length (edges_of g)) most_edges row
        (All-from_get_or (λ (g : Given). length (edges_of g) ≤ most_edges) row nothing_given (λ k l. (given k l).few)),
  )

  sources-fewer : sources_in_all (graph_among (length row) (all_edges row)) ≤ length (all_edges row)
  sources-fewer = omega (
    arith,
    sum-twice (λ (near : Near). length near.sources) (near_among (all_edges row)) (upto (length row)),
    counts-below (λ (e : Edge). e.destination) (all_edges row) (λ k. length (sources_among k (all_edges row))) (λ k. length-map (filter (λ (e : Edge). e.destination == k) (all_edges row)) source_of) (length row),
    count-length (λ (e : Edge). nat_lt e.destination (length row)) (all_edges row),
  )

  destinations-fewer : destinations_in_all (graph_among (length row) (all_edges row)) ≤ length (all_edges row)
  destinations-fewer = omega (
    arith,
    sum-twice (λ (near : Near). length near.destinations) (near_among (all_edges row)) (upto (length row)),
    counts-below (λ (e : Edge). e.source) (all_edges row) (λ k. length (destinations_among k (all_edges row))) (λ k. length-map (filter (λ (e : Edge). e.source == k) (all_edges row)) destination_of) (length row),
    count-length (λ (e : Edge). nat_lt e.source (length row)) (all_edges row),
  )

  pub general-topology : is_topology (general row) ≡ true
  unfolding general
  general-topology =
      let size = length row in
      let edges = all_edges row in
      let long = length-graph size edges in
      topology-from (record { weighted = weighted_of (first_of row); ranks = graph_among size edges }) (record {
        few = le-leb _ _ (omega (arith, long, few));
        near = ap (λ (n : ℕ). list_all (is_near n (weighted_of (first_of row))) (graph_among size edges)) long
            ∙ list_all-map (is_near size (weighted_of (first_of row))) (near_among edges) (upto size)
            ∙ list_all-from_AllPass (λ rank. is_near size (weighted_of (first_of row)) (near_among edges rank)) (upto size) (λ k d l. among-pass _);
        sources = le-leb _ _ (omega (arith, sources-fewer, edges-few, few));
        destinations = le-leb _ _ (omega (arith, destinations-fewer, edges-few, few));
        paired = paired-from (graph_among size edges) (graph-agrees size edges (all_edges-between row fine));
      })
