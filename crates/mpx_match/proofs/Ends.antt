-- What is said of one edge, by the two posts at its ends.
use Rattle.std.proofs.Common.{◌≡◌, ◌==◌, ◌<◌, ℕ, nat_eq, Bool, not, List, [], length, is_some, refl, ap, arith, ◌∙◌}
use lib.Pointwise.{pointwise}
use Rattle.mpx_birth.specs.Edges.{weights_of}
use Rattle.mpx_post.specs.Posts.{Given, destinations_of, sources_of}
use Rattle.mpx_birth.specs.declared.edges.Neighbour.{Neighbour}
use Rattle.mpx_kind.specs.declared.kinds.Neighbourhood.{Neighbourhood}
use Rattle.mpx_post.specs.Rows.{RowView}
use Rattle.mpx_post.specs.Agreement.{awaited_on, post_at, sent_on}
use Rattle.mpx_birth.specs.Topologies.{TopologyView, destinations_at}
use Rattle.mpx_birth.specs.Ends.{rank_at, taken_at}
use Rattle.mpx_match.specs.Questions.{edges_differ}
use Rattle.mpx_match.proofs.Least.{NoneBelow, least_rank-absent}

-- on the edge at this place among the member's destinations another number of items is sent than awaited where it meets
abbrev pub edge_differs : Neighbourhood → TopologyView → RowView → (rank place : ℕ) → Bool
edge_differs exchange topology row rank place =
    not (sent_on exchange (post_at row rank) place == awaited_on exchange (post_at row (rank_at (destinations_at topology rank) place)) (taken_at topology rank place))

pub edge_is : (exchange : Neighbourhood) (topology : TopologyView) (row : RowView) (rank place : ℕ) (lent : List Neighbour) → lent ≡ destinations_at topology rank
    → (taken sent awaited : ℕ) → taken ≡ taken_at topology rank place → sent ≡ sent_on exchange (post_at row rank) place → awaited ≡ awaited_on exchange (post_at row (rank_at lent place)) taken
    → not (sent == awaited) ≡ edge_differs exchange topology row rank place
edge_is exchange topology row rank place lent is taken sent awaited t s a =
    let away : awaited ≡ awaited_on exchange (post_at row (rank_at (destinations_at topology rank) place)) (taken_at topology rank place) = a ∙ (λ i. awaited_on exchange (post_at row (rank_at (is i) place)) (t i)) in
    λ i. not (s i == away i)

-- the edges from this member to the other have other weights by the other's post
abbrev pub edges_differ_at : ℕ → Given → (other : ℕ) → Given → Bool
edges_differ_at rank given other theirs = not (pointwise nat_eq (weights_of other (destinations_of given)) (weights_of rank (sources_of theirs)))

-- where no post names a source or a destination, no edges differ
pub no_edges_differ : (row : RowView) → ((k : ℕ) → k < length row → (sources_of (post_at row k) ≡ []) × (destinations_of (post_at row k) ≡ [])) → NoneBelow (edges_differ row) row (length row)
no_edges_differ row none rank l =
    ap is_some (least_rank-absent (edges_differ_at rank (post_at row rank)) row (length row) (λ other m. rw ((none rank l).1, (none other m).0) refl) (omega arith))
