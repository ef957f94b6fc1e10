-- The graph of a list of edges.
use Rattle.std.proofs.Common.{◌≡◌, ℕ, zero, suc, ◌<◌, ◌≤◌, Bool, List, [], ◌∷◌, ◌++◌, length, cond, map, get_or, set, refl, sym, ap, ◌∙◌, inl, inr, arith, append-nil, add-one}
use Rattle.std.specs.Prelude.{◌==◌}
use Rattle.std.specs.List.{All, range_with_len}
use Rattle.std.proofs.lemmas.Bool.{cases_lt, cases_eq, ne_eqb, eq-eqb}
use Rattle.std.proofs.lemmas.List.{get_or_past, get_or_default, get_or-set_same, get_or-set_other, length-set, map_push}
use Rattle.std.proofs.lemmas.List.FromFn.{fill_by_all, map-range_with_len_more, get_or-map-range_with_len, length-map-range_with_len}
use Rattle.mpx_birth.specs.declared.edges.Edge.{Edge}
use Rattle.mpx_birth.specs.declared.edges.Neighbour.{Neighbour}
use Rattle.mpx_birth.specs.Edges.{often, source_of, destination_of, sources_among, destinations_among}
use Rattle.mpx_birth.specs.Births.{upto}
use Rattle.mpx_birth.specs.Topologies.{Near, AgreesAtBothEnds, nobody, sources_near, destinations_near}
use Rattle.mpx_birth.proofs.Kept.{none_pass}
use Rattle.mpx_graph.specs.Graphs.{IsEdgeBetween, near_among, graph_among}
use Rattle.mpx_graph.proofs.Pairs.{ends_agree, sources-more, destinations-more}

-- the numbers below n, as a range
map-upto : {A : Type 0} (f : ℕ → A) (n : ℕ) → map f (upto n) ≡ map f (range_with_len 0 n)
map-upto f zero = refl
map-upto f (suc n) =
    map_push f (upto n) n
    ∙ ap (λ xs. xs ++ f n ∷ []) (map-upto f n)
    ∙ sym (map-range_with_len_more f 0 n n (omega arith))
    ∙ ap (λ k. map f (range_with_len 0 k)) (add-one n)

-- what stands at a rank
pub near-at : (size : ℕ) (edges : List Edge) (rank : ℕ) → rank < size → get_or (graph_among size edges) rank nobody ≡ near_among edges rank
near-at size edges rank l =
    ap (λ (xs : List Near). get_or xs rank nobody) (map-upto (near_among edges) size)
    ∙ get_or-map-range_with_len (near_among edges) 0 size rank rank nobody l (omega arith)

pub length-graph : (size : ℕ) (edges : List Edge) → length (graph_among size edges) ≡ size
length-graph size edges = ap length (map-upto (near_among edges) size) ∙ length-map-range_with_len (near_among edges) 0 size

-- entries that are each as in the graph
graph-by-entries : (size : ℕ) (edges : List Edge) (xs : List Near) → length xs ≡ size → ((k : ℕ) → k < size → get_or xs k nobody ≡ near_among edges k) → xs ≡ graph_among size edges
graph-by-entries size edges xs long each = fill_by_all (near_among edges) xs size nobody long each ∙ sym (map-upto (near_among edges) size)

-- nobody past the members
module _ (size : ℕ) (edges : List Edge) (within : All (IsEdgeBetween size) edges) where
  past_sources : (rank : ℕ) → size ≤ rank → sources_among rank edges ≡ []
  past_sources rank l =
      ap (map source_of) (none_pass (λ e. e.destination == rank) edges (λ k d m. ne_eqb _ _ (λ e. let w = (within k d m).destination in omega arith)))

  past_destinations : (rank : ℕ) → size ≤ rank → destinations_among rank edges ≡ []
  past_destinations rank l =
      ap (map destination_of) (none_pass (λ e. e.source == rank) edges (λ k d m. ne_eqb _ _ (λ e. let w = (within k d m).source in omega arith)))

  pub sources-graph : (rank : ℕ) → sources_near (graph_among size edges) rank ≡ sources_among rank edges
  sources-graph rank = elim (cases_lt rank size) [
    | inl l ↦ ap (λ (near : Near). near.sources) (near-at size edges rank l)
    | inr l ↦ ap (λ (near : Near). near.sources) (get_or_past (graph_among size edges) rank nobody (let e = length-graph size edges in omega arith)) ∙ sym (past_sources rank l)
  ]

  pub destinations-graph : (rank : ℕ) → destinations_near (graph_among size edges) rank ≡ destinations_among rank edges
  destinations-graph rank = elim (cases_lt rank size) [
    | inl l ↦ ap (λ (near : Near). near.destinations) (near-at size edges rank l)
    | inr l ↦ ap (λ (near : Near). near.destinations) (get_or_past (graph_among size edges) rank nobody (let e = length-graph size edges in omega arith)) ∙ sym (past_destinations rank l)
  ]

  pub graph-agrees : AgreesAtBothEnds (graph_among size edges)
  graph-agrees = record {
    both = λ i j. ap (often j) (destinations-graph i) ∙ ends_agree edges i j ∙ sym (ap (often i) (sources-graph j));
  }

-- ONE MORE EDGE

to_itself : (e : Edge) (rank : ℕ) → e.source ≡ rank → destinations_among rank (e ∷ []) ≡ destination_of e ∷ []
to_itself e rank is = ap (λ (b : Bool). map destination_of (cond b (e ∷ []) [])) (eq-eqb _ _ is)

to_others : (e : Edge) (rank : ℕ) → (e.source ≡ rank → ⊥) → destinations_among rank (e ∷ []) ≡ []
to_others e rank other = ap (λ (b : Bool). map destination_of (cond b (e ∷ []) [])) (ne_eqb _ _ other)

from_itself : (e : Edge) (rank : ℕ) → e.destination ≡ rank → sources_among rank (e ∷ []) ≡ source_of e ∷ []
from_itself e rank is = ap (λ (b : Bool). map source_of (cond b (e ∷ []) [])) (eq-eqb _ _ is)

from_others : (e : Edge) (rank : ℕ) → (e.destination ≡ rank → ⊥) → sources_among rank (e ∷ []) ≡ []
from_others e rank other = ap (λ (b : Bool). map source_of (cond b (e ∷ []) [])) (ne_eqb _ _ other)

module _ (size : ℕ) (before : List Edge) (e : Edge) (source : e.source < size) (destination : e.destination < size) where
  after : List Edge
  after = before ++ e ∷ []

  one_end : ℕ → Near
  one_end rank = record { sources = sources_among rank before; destinations = destinations_among rank after }

  first_end : (xs : List Near) (at new : Near) → xs ≡ graph_among size before → at ≡ get_or xs e.source at → new ≡ record { sources = at.sources; destinations = at.destinations ++ destination_of e ∷ [] }
      → (k : ℕ) → k < size → get_or (set xs e.source new) k nobody ≡ one_end k
  unfolding after one_end
  first_end xs at new is there more k l =
      let long : length xs ≡ size = ap length is ∙ length-graph size before in
      elim (cases_eq k e.source) [
        | inl here ↦
            let was : at ≡ near_among before k =
            there ∙ get_or_default xs e.source at nobody (omega (arith, long)) ∙ ap (λ (ys : List Near). get_or ys e.source nobody) is ∙ near-at size before e.source source ∙ ap (near_among before) (sym here) in
            let grown : destinations_among k after ≡ destinations_among k before ++ destination_of e ∷ [] =
            destinations-more k before (e ∷ []) ∙ ap (λ (ns : List Neighbour). destinations_among k before ++ ns) (to_itself e k (sym here)) in
            ap (λ (n : ℕ). get_or (set xs e.source new) n nobody) here
            ∙ get_or-set_same xs e.source new nobody (omega (arith, long))
            ∙ more
            ∙ (λ i. record { sources = (was i).sources; destinations = (was i).destinations ++ destination_of e ∷ [] })
            ∙ (λ i. record { sources = sources_among k before; destinations = sym grown i })
        | inr other ↦
            let same : destinations_among k after ≡ destinations_among k before =
            destinations-more k before (e ∷ []) ∙ ap (λ (ns : List Neighbour). destinations_among k before ++ ns) (to_others e k (λ d. other (sym d))) ∙ append-nil _ in
            get_or-set_other xs e.source k new nobody other
            ∙ ap (λ (ys : List Near). get_or ys k nobody) is
            ∙ near-at size before k l
            ∙ (λ i. record { sources = sources_among k before; destinations = sym same i })
      ]

  second_end : (xs : List Near) (at new : Near) → length xs ≡ size → ((k : ℕ) → k < size → get_or xs k nobody ≡ one_end k) → at ≡ get_or xs e.destination at → new ≡ record { sources = at.sources ++ source_of e ∷ []; destinations = at.destinations }
      → (k : ℕ) → k < size → get_or (set xs e.destination new) k nobody ≡ near_among after k
  unfolding after one_end
  second_end xs at new long is there more k l = elim (cases_eq k e.destination) [
    | inl here ↦
        let was : at ≡ one_end k = there ∙ get_or_default xs e.destination at nobody (omega (arith, long)) ∙ ap (λ (n : ℕ). get_or xs n nobody) (sym here) ∙ is k l in
        let grown : sources_among k after ≡ sources_among k before ++ source_of e ∷ [] =
        sources-more k before (e ∷ []) ∙ ap (λ (ns : List Neighbour). sources_among k before ++ ns) (from_itself e k (sym here)) in
        ap (λ (n : ℕ). get_or (set xs e.destination new) n nobody) here
        ∙ get_or-set_same xs e.destination new nobody (omega (arith, long))
        ∙ more
        ∙ (λ i. record { sources = (was i).sources ++ source_of e ∷ []; destinations = (was i).destinations })
        ∙ (λ i. record { sources = sym grown i; destinations = destinations_among k after })
    | inr other ↦
        let same : sources_among k after ≡ sources_among k before =
        sources-more k before (e ∷ []) ∙ ap (λ (ns : List Neighbour). sources_among k before ++ ns) (from_others e k (λ d. other (sym d))) ∙ append-nil _ in
        get_or-set_other xs e.destination k new nobody other
        ∙ is k l
        ∙ (λ i. record { sources = sym same i; destinations = destinations_among k after })
  ]

  -- an edge put at its two ends
  pub graph-more : (xs : List Near) (from from_new to to_new : Near) → xs ≡ graph_among size before
      → from ≡ get_or xs e.source from → from_new ≡ record { sources = from.sources; destinations = from.destinations ++ destination_of e ∷ [] }
      → to ≡ get_or (set xs e.source from_new) e.destination to → to_new ≡ record { sources = to.sources ++ source_of e ∷ []; destinations = to.destinations }
      → set (set xs e.source from_new) e.destination to_new ≡ graph_among size (before ++ e ∷ [])
  unfolding after
  graph-more xs from from_new to to_new is there more there' more' =
      let long : length (set xs e.source from_new) ≡ size = length-set xs e.source from_new ∙ ap length is ∙ length-graph size before in
      graph-by-entries size after _ (length-set (set xs e.source from_new) e.destination to_new ∙ long)
      (second_end (set xs e.source from_new) to to_new long (first_end xs from from_new is there more) there' more')

-- THE EMPTY GRAPH

pub graph-none : (size : ℕ) (xs : List Near) → length xs ≡ size → ((k : ℕ) → k < size → get_or xs k nobody ≡ nobody) → xs ≡ graph_among size []
graph-none size xs long none = graph-by-entries size [] xs long none
