-- What a fine row says of edges and neighbours.
use Rattle.std.proofs.Common.{◌≡◌, ℕ, suc, ◌+◌, ◌<◌, true, List, [], ◌∷◌, ◌++◌, ◌∙◌, ap, append-nil, length, nat_lt, take, arith}
use Rattle.std.specs.Prelude.{◌&&◌}
use Rattle.std.specs.List.{All, list_all}
use Rattle.std.proofs.lemmas.Bool.{and_parts, ltb-true}
use Rattle.std.proofs.lemmas.Grind.{flat_map-append}
use Rattle.std.proofs.lemmas.List.{take_more}
use Rattle.std.proofs.lemmas.List.Elements.{All-append, All-weaker}
use Rattle.std.proofs.lemmas.List.Sums.{AllPass-from_list_all}
use Rattle.mpx_birth.specs.declared.edges.Edge.{Edge}
use Rattle.mpx_birth.specs.declared.edges.Neighbour.{Neighbour}
use Rattle.mpx_birth.proofs.Kept.{AreBelow}
use Rattle.mpx_post.specs.Posts.{nothing_given, destinations_of, edges_of, sources_of}
use Rattle.mpx_post.specs.Rows.{RowView}
use Rattle.mpx_post.specs.Agreement.{IsFine, fits_edges, post_at}
use Rattle.mpx_post.proofs.Agreement.{fits_parts}
use Rattle.mpx_graph.specs.Graphs.{IsEdgeBetween, all_edges}

between : (size : ℕ) (e : Edge) → (nat_lt e.source size && nat_lt e.destination size) ≡ true → IsEdgeBetween size e
between size e t =
    let parts = and_parts _ _ t in
    record { source = ltb-true e.source size parts.0; destination = ltb-true e.destination size parts.1 }

below : (size : ℕ) (ns : List Neighbour) → list_all (λ (n : Neighbour). nat_lt n.rank size) ns ≡ true → AreBelow size ns
below size ns t = All-weaker _ _ (λ n u. ltb-true n.rank size u) ns (AllPass-from_list_all (λ (n : Neighbour). nat_lt n.rank size) ns t)

module _ (row : RowView) (fine : IsFine row) (rank : ℕ) (l : rank < length row) where
  fitting : fits_edges (length row) (post_at row rank) ≡ true
  fitting = (fits_parts fine.topology (length row) rank (post_at row rank) (fine.with.each rank l).fit).edges

  pub edges-between : All (IsEdgeBetween (length row)) (edges_of (post_at row rank))
  edges-between =
      All-weaker _ _ (between (length row)) _
      (AllPass-from_list_all (λ (e : Edge). nat_lt e.source (length row) && nat_lt e.destination (length row)) _ (and_parts _ _ fitting).0)

  pub sources-below : AreBelow (length row) (sources_of (post_at row rank))
  sources-below = below (length row) _ (and_parts _ _ (and_parts _ _ fitting).1).0

  pub destinations-below : AreBelow (length row) (destinations_of (post_at row rank))
  destinations-below = below (length row) _ (and_parts _ _ (and_parts _ _ fitting).1).1

-- what holds of the edges of each member
pub All-all_edges : (P : Edge → Type 0) (row : RowView) → ((k : ℕ) → k < length row → All P (edges_of (post_at row k))) → All P (all_edges row)
All-all_edges P [] each = λ k d l. absurd (omega arith)
All-all_edges P (given ∷ rest) each =
    All-append P (edges_of given) (all_edges rest) (each 0 (omega arith)) (All-all_edges P rest (λ k l. each (suc k) (omega arith)))

-- one member's edges, read from a row
pub edges-within : (row : RowView) (rank size : ℕ) (edges : List Edge) → IsFine row → rank < length row → size ≡ length row → edges ≡ edges_of (post_at row rank) → All (IsEdgeBetween size) edges
edges-within row rank size edges fine l same is = rw (same, is) (edges-between row fine rank l)

-- one member's edges more
pub all_edges-more : (row : RowView) (rank : ℕ) → rank < length row → all_edges (take (rank + 1) row) ≡ all_edges (take rank row) ++ edges_of (post_at row rank)
all_edges-more row rank l =
    ap all_edges (take_more row rank nothing_given l)
    ∙ flat_map-append edges_of (take rank row) (post_at row rank ∷ [])
    ∙ ap (λ (es : List Edge). all_edges (take rank row) ++ es) (append-nil (edges_of (post_at row rank)))

pub all_edges-between : (row : RowView) → IsFine row → All (IsEdgeBetween (length row)) (all_edges row)
all_edges-between row fine = All-all_edges (IsEdgeBetween (length row)) row (edges-between row fine)
