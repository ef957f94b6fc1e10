-- The graph of the neighbours that members name.
use Rattle.std.proofs.Common.{◌≡◌, ℕ, ◌<◌, List, [], ◌∷◌, ◌++◌, ◌+◌, take, length, map, sym, ap, ◌∙◌, inl, inr}
use Rattle.std.specs.List.{filter}
use Rattle.std.specs.Ordering.{is_lt, nat_cmp}
use Rattle.std.proofs.lemmas.Bool.{cases_lt}
use Rattle.std.proofs.lemmas.List.{get_or_past, length-map, map_push, take_more}
use Rattle.std.proofs.Math.ListN.{get_or-map}
use Rattle.mpx_birth.specs.declared.edges.Neighbour.{Neighbour}
use Rattle.mpx_birth.specs.Edges.{has_rank, often, weights_of}
use Rattle.mpx_birth.specs.Topologies.{Near, AgreesAtBothEnds, sources_near, destinations_near}
use Rattle.mpx_post.specs.Posts.{Given, destinations_of, nothing_given, sources_of}
use Rattle.mpx_post.specs.Rows.{RowView}
use Rattle.mpx_post.specs.Agreement.{IsFine, post_at}
use Rattle.mpx_birth.proofs.Kept.{often-far}
use Rattle.mpx_birth.proofs.Sorting.{length-ordered}
use Rattle.mpx_graph.specs.Graphs.{near_given}
use Rattle.mpx_graph.proofs.Fine.{destinations-below, sources-below}

-- as many weights as neighbours
often-weights : (rank : ℕ) (ns : List Neighbour) → length (weights_of rank ns) ≡ often rank ns
often-weights rank ns =
    length-ordered (λ (x y : ℕ). is_lt (nat_cmp x y)) (map (λ (n : Neighbour). n.weight) (filter (has_rank rank) ns))
    ∙ length-map (filter (has_rank rank) ns) (λ (n : Neighbour). n.weight)

-- one member's neighbours more
pub near_given-more : (row : RowView) (rank : ℕ) → rank < length row → map near_given (take (rank + 1) row) ≡ map near_given (take rank row) ++ near_given (post_at row rank) ∷ []
near_given-more row rank l = ap (map near_given) (take_more row rank nothing_given l) ∙ map_push near_given (take rank row) (post_at row rank)

module _ (row : RowView) (fine : IsFine row) where
  told_alike : (i j : ℕ) → i < length row → j < length row → often j (destinations_of (post_at row i)) ≡ often i (sources_of (post_at row j))
  told_alike i j l m =
      sym (often-weights j (destinations_of (post_at row i))) ∙ ap length ((fine.with.each i l).edges j m) ∙ often-weights i (sources_of (post_at row j))

  both_told : (i j : ℕ) → often j (destinations_of (post_at row i)) ≡ often i (sources_of (post_at row j))
  both_told i j = elim (cases_lt i (length row)) [
    | inl l ↦ elim (cases_lt j (length row)) [
      | inl m ↦ told_alike i j l m
      | inr far ↦ often-far (length row) j _ far (destinations-below row fine i l) ∙ sym (ap (λ (given : Given). often i (sources_of given)) (get_or_past row j nothing_given far))
    ]
    | inr far ↦ ap (λ (given : Given). often j (destinations_of given)) (get_or_past row i nothing_given far) ∙ sym (elim (cases_lt j (length row)) [
      | inl m ↦ often-far (length row) i _ far (sources-below row fine j m)
      | inr past ↦ ap (λ (given : Given). often i (sources_of given)) (get_or_past row j nothing_given past)
    ])
  ]

  pub adjacent-agrees : AgreesAtBothEnds (map near_given row)
  adjacent-agrees = record {
    both = λ i j.
        let out : destinations_near (map near_given row) i ≡ destinations_of (post_at row i) = ap (λ (near : Near). near.destinations) (get_or-map near_given row i nothing_given) in
        let come : sources_near (map near_given row) j ≡ sources_of (post_at row j) = ap (λ (near : Near). near.sources) (get_or-map near_given row j nothing_given) in
        ap (often j) out ∙ both_told i j ∙ sym (ap (often i) come);
  }
