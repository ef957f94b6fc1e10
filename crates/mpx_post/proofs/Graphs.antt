-- What a draft says of a graph, within its limits.
use Rattle.std.proofs.Common.{◌≡◌, ℕ, ◌^◌, ◌<◌, ◌≤◌, nat_lt, pos, Bool, true, false, List, [], ◌∷◌, ℤ, cond, map, refl, arith}
use Rattle.std.specs.Prelude.{int_le}
use Rattle.std.specs.List.{All, list_all}
use Rattle.std.proofs.lemmas.Bool.{and_parts, and_from}
use Rattle.std.proofs.lemmas.Bool.Decides.{nat_tests}
use Rattle.std.proofs.lemmas.List.{length-map}
use Rattle.std.proofs.lemmas.List.Elements.{All-nil, All-cons}
use Rattle.mpx_kind.specs.declared.kinds.Makes.{Makes}
use Rattle.mpx_kind.specs.declared.kinds.Makes.TheVariants as M
use Rattle.mpx_post.specs.declared.drafted_edges.DraftedEdge.{DraftedEdge}
use Rattle.mpx_post.specs.declared.drafted_edges.DraftedNeighbour.{DraftedNeighbour}
use Rattle.mpx_post.specs.Drafts.{are_edges, edge_count, edge_of, is_edge, is_neighbour, is_rank, is_weight, natural, neighbour_of}
use Rattle.mpx_post.specs.Graphs.{AreEdges, AreNeighbours, GraphView, IsEdge, IsNeighbour, IsWeight, most_edges}

-- a rank of so many is one of more
pub is_rank-more : (size : ℕ) (z : ℤ) → size ≤ 64 → is_rank size z ≡ true → is_rank 64 z ≡ true
is_rank-more size z l h =
    let parts = and_parts (int_le (pos 0) z) (nat_lt (natural z) size) h in
    let below : nat_lt (natural z) 64 ≡ true = grind (arith, nat_tests, parts.1) in
    and_from _ _ parts.0 below

pub is_rank-below : (z : ℤ) → is_rank 64 z ≡ true → natural z < 64
is_rank-below z h =
    let parts = and_parts (int_le (pos 0) z) (nat_lt (natural z) 64) h in
    let below : natural z < 64 = grind (arith, nat_tests, parts.1) in
    below

-- where one test passes another one does
pub all_more : {A : Type 0} (p q : A → Bool) → ((x : A) → p x ≡ true → q x ≡ true) → (xs : List A) → list_all p xs ≡ true → list_all q xs ≡ true
all_more p q more [] h = refl
all_more p q more (x ∷ xs) h =
    let parts = and_parts (p x) (list_all p xs) h in
    and_from _ _ (more x parts.0) (all_more p q more xs parts.1)

-- where it passes something holds of what is made of it
pub all_made : {A B : Type 0} (p : A → Bool) (f : A → B) (Q : B → Type 0) → ((x : A) → p x ≡ true → Q (f x)) → (xs : List A) → list_all p xs ≡ true → All Q (map f xs)
all_made p f Q made [] h = All-nil Q
all_made p f Q made (x ∷ xs) h =
    let parts = and_parts (p x) (list_all p xs) h in
    All-cons Q _ _ (made x parts.0) (all_made p f Q made xs parts.1)

edge-more : (size : ℕ) (weighted : Bool) → size ≤ 64 → (e : DraftedEdge) → is_edge size weighted e ≡ true → is_edge 64 weighted e ≡ true
edge-more size weighted l e h =
    let source = and_parts (is_rank size e.source) _ h in
    let destination = and_parts (is_rank size e.destination) (is_weight weighted e.weight) source.1 in
    and_from _ _ (is_rank-more size e.source l source.0) (and_from _ _ (is_rank-more size e.destination l destination.0) destination.1)

neighbour-more : (size : ℕ) (weighted : Bool) → size ≤ 64 → (n : DraftedNeighbour) → is_neighbour size weighted n ≡ true → is_neighbour 64 weighted n ≡ true
neighbour-more size weighted l n h =
    let parts = and_parts (is_rank size n.rank) (is_weight weighted n.weight) h in
    and_from _ _ (is_rank-more size n.rank l parts.0) parts.1

-- edges between ranks of so many are edges between ranks of more
pub are_edges-more : (makes : Makes) (size : ℕ) (graph : GraphView) → size ≤ 64 → are_edges makes size graph ≡ true → are_edges makes 64 graph ≡ true
are_edges-more M.Nothing size graph l h = refl
are_edges-more M.Colour size graph l h = refl
are_edges-more M.Group size graph l h = refl
are_edges-more M.Edges size graph l h = all_more _ _ (edge-more size graph.weighted l) graph.edges h
are_edges-more M.Neighbours size graph l h =
    let parts = and_parts (list_all (is_neighbour size graph.weighted) graph.sources) (list_all (is_neighbour size graph.weighted) graph.destinations) h in
    and_from _ _ (all_more _ _ (neighbour-more size graph.weighted l) graph.sources parts.0) (all_more _ _ (neighbour-more size graph.weighted l) graph.destinations parts.1)

weight-from : (weighted : Bool) (z : ℤ) → is_weight weighted z ≡ true → IsWeight weighted (cond weighted (natural z) 0)
weight-from true z h =
    let parts = and_parts (int_le (pos 0) z) (nat_lt (natural z) (2 ^ 31)) h in
    let below : natural z < 2 ^ 31 = grind (arith, nat_tests, parts.1) in
    below
weight-from false z h = refl

edge-from : (weighted : Bool) (e : DraftedEdge) → is_edge 64 weighted e ≡ true → IsEdge weighted (edge_of weighted e)
edge-from weighted e h =
    let source = and_parts (is_rank 64 e.source) _ h in
    let destination = and_parts (is_rank 64 e.destination) (is_weight weighted e.weight) source.1 in
    record { source = is_rank-below e.source source.0; destination = is_rank-below e.destination destination.0; weight = weight-from weighted e.weight destination.1 }

neighbour-from : (weighted : Bool) (n : DraftedNeighbour) → is_neighbour 64 weighted n ≡ true → IsNeighbour weighted (neighbour_of weighted n)
neighbour-from weighted n h =
    let parts = and_parts (is_rank 64 n.rank) (is_weight weighted n.weight) h in
    record { rank = is_rank-below n.rank parts.0; weight = weight-from weighted n.weight parts.1 }

pub AreEdges-from : (graph : GraphView) → are_edges M.Edges 64 graph ≡ true → edge_count M.Edges graph ≤ most_edges → AreEdges (record { weighted = graph.weighted; edges = map (edge_of graph.weighted) graph.edges })
AreEdges-from graph h few = record {
  each = all_made (is_edge 64 graph.weighted) (edge_of graph.weighted) (IsEdge graph.weighted) (edge-from graph.weighted) graph.edges h;
  few = omega (arith, length-map graph.edges (edge_of graph.weighted), few);
}

pub AreNeighbours-from : (graph : GraphView) → are_edges M.Neighbours 64 graph ≡ true → edge_count M.Neighbours graph ≤ most_edges → AreNeighbours (record { weighted = graph.weighted; sources = map (neighbour_of graph.weighted) graph.sources; destinations = map (neighbour_of graph.weighted) graph.destinations })
AreNeighbours-from graph h few =
    let parts = and_parts (list_all (is_neighbour 64 graph.weighted) graph.sources) (list_all (is_neighbour 64 graph.weighted) graph.destinations) h in
    record {
      sources = all_made (is_neighbour 64 graph.weighted) (neighbour_of graph.weighted) (IsNeighbour graph.weighted) (neighbour-from graph.weighted) graph.sources parts.0;
      destinations = all_made (is_neighbour 64 graph.weighted) (neighbour_of graph.weighted) (IsNeighbour graph.weighted) (neighbour-from graph.weighted) graph.destinations parts.1;
      few = omega (arith, length-map graph.sources (neighbour_of graph.weighted), length-map graph.destinations (neighbour_of graph.weighted), few);
    }
