-- What the members of a fine row send.
use Rattle.std.proofs.Common.{◌≡◌, ℕ, ◌*◌, ◌<◌, List, [], Some, true, length, sum, refl, ap, ◌∙◌, append-nil, eqb-true, unwrap_or}
use Rattle.mpx_birth.specs.Topologies.{TopologyView, destinations_at}
use Rattle.mpx_kind.specs.declared.kinds.Kind.{Kind}
use Rattle.mpx_kind.specs.declared.kinds.Neighbourhood.{Neighbourhood}
use Rattle.mpx_kind.specs.declared.kinds.Neighbourhood.TheVariants.{Allgather, Allgatherv, Alltoall, Alltoallv}
use Rattle.mpx_num.specs.Types.{item_len}
use Rattle.mpx_kind.specs.Kinds.{fields_of}
use Rattle.mpx_post.specs.Posts.{numbers_of, type_of}
use Rattle.mpx_post.specs.Blocks.{blocks_sent, repeated}
use Rattle.mpx_post.specs.Rows.{RowView}
use Rattle.mpx_post.specs.Agreement.{counts_sent, first_of, post_at, seat_of, IsFineWith}
use Rattle.mpx_post.proofs.Blocks.{filled_as, scounts_as, length-alone}
use Rattle.mpx_kind.specs.declared.kinds.Kind.TheVariants as K
use Rattle.mpx_neigh.specs.Cursors.{sends_blocks}

module _ (topology : TopologyView) (row : RowView) (sender : ℕ) (fine : IsFineWith (Some topology) row) (l : sender < length row) where
  by_kind : (kind : Kind) → (post_at row sender).kind ≡ kind → counts_sent (Some topology) row sender ≡ unwrap_or (blocks_sent (fields_of kind).sent (seat_of (Some topology) (length row) sender (post_at row sender)) (post_at row sender).scounts (post_at row sender).rcounts) []
  by_kind kind is = ap (λ (k : Kind). unwrap_or (blocks_sent (fields_of k).sent (seat_of (Some topology) (length row) sender (post_at row sender)) (post_at row sender).scounts (post_at row sender).rcounts) []) is

  of_kind : (exchange : Neighbourhood) → (first_of row).kind ≡ K.Neighbourhood exchange → (post_at row sender).kind ≡ K.Neighbourhood exchange
  of_kind exchange kind = (fine.each sender l).kind ∙ kind

  -- where each destination gets as many items as another
  pub one_count : (first_of row).kind ≡ K.Neighbourhood Alltoall → length (post_at row sender).scounts ≡ 1
  one_count kind = scounts_as (Some topology) (K.Neighbourhood Alltoall) (length row) sender (post_at row sender) (of_kind Alltoall kind) (fine.each sender l).fit

  pub same_counts : (first_of row).kind ≡ K.Neighbourhood Alltoall → counts_sent (Some topology) row sender ≡ repeated (length (destinations_at topology sender)) (post_at row sender).scounts
  same_counts kind = by_kind (K.Neighbourhood Alltoall) (of_kind Alltoall kind)

  -- where each gets its own number
  pub own_counts : (first_of row).kind ≡ K.Neighbourhood Alltoallv → counts_sent (Some topology) row sender ≡ (post_at row sender).scounts
  own_counts kind = by_kind (K.Neighbourhood Alltoallv) (of_kind Alltoallv kind) ∙ append-nil (post_at row sender).scounts

  -- one block for each destination
  pub sends_each : (exchange : Neighbourhood) → (first_of row).kind ≡ K.Neighbourhood exchange → sends_blocks exchange ≡ true → length (counts_sent (Some topology) row sender) ≡ length (destinations_at topology sender)
  sends_each Allgather kind blocks = cc blocks
  sends_each Allgatherv kind blocks = cc blocks
  sends_each Alltoall kind blocks = ap length (same_counts kind) ∙ length-alone _ (post_at row sender).scounts (one_count kind)
  sends_each Alltoallv kind blocks = ap length (own_counts kind) ∙ scounts_as (Some topology) (K.Neighbourhood Alltoallv) (length row) sender (post_at row sender) (of_kind Alltoallv kind) (fine.each sender l).fit

  -- as many items as the blocks have
  pub fills : (exchange : Neighbourhood) → (first_of row).kind ≡ K.Neighbourhood exchange → sends_blocks exchange ≡ true → sum (counts_sent (Some topology) row sender) * item_len (type_of (post_at row sender)) ≡ length (numbers_of (post_at row sender))
  fills Allgather kind blocks = cc blocks
  fills Allgatherv kind blocks = cc blocks
  fills Alltoall kind blocks =
      let filled = filled_as (Some topology) (K.Neighbourhood Alltoall) (length row) sender (post_at row sender) (of_kind Alltoall kind) (fine.each sender l).fit in
      ap (λ (counts : List ℕ). sum counts * item_len (type_of (post_at row sender))) (same_counts kind) ∙ eqb-true _ _ filled
  fills Alltoallv kind blocks =
      let filled = filled_as (Some topology) (K.Neighbourhood Alltoallv) (length row) sender (post_at row sender) (of_kind Alltoallv kind) (fine.each sender l).fit in
      ap (λ (counts : List ℕ). sum counts * item_len (type_of (post_at row sender))) (by_kind (K.Neighbourhood Alltoallv) (of_kind Alltoallv kind)) ∙ eqb-true _ _ filled

-- A KIND THAT SENDS BLOCKS

-- with one count for all or with one for each
pub one_for_all : (exchange : Neighbourhood) → sends_blocks exchange ≡ true → (exchange ≡ Alltoallv → ⊥) → exchange ≡ Alltoall
one_for_all Allgather blocks other = cc blocks
one_for_all Allgatherv blocks other = cc blocks
one_for_all Alltoall blocks other = refl
one_for_all Alltoallv blocks other = absurd (other refl)
