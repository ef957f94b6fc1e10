-- How far the blocks of each sender are taken, in one pass over a rank's sources (MPI 4.1, section 8.6).
use Rattle.std.specs.Prelude.{◌≡◌, ℕ, ◌<◌, Bool, true, false, List, Some, length, take, slice_index_or}
use Rattle.std.specs.List.{sum}
use Rattle.mpx_birth.specs.Topologies.{TopologyView, destinations_at, sources_at}
use Rattle.mpx_kind.specs.declared.kinds.Neighbourhood.{Neighbourhood}
use Rattle.mpx_kind.specs.declared.kinds.Neighbourhood.TheVariants.{Allgather, Allgatherv, Alltoall, Alltoallv}
use Rattle.mpx_birth.specs.Ends.{sent_at}
use Rattle.mpx_birth.proofs.Passes.{AreMet}
use Rattle.mpx_post.specs.declared.block.Block.{Block}
use Rattle.mpx_post.specs.Posts.{numbers_of, type_of}
use Rattle.mpx_post.specs.Rows.{RowView}
use Rattle.mpx_post.specs.Agreement.{counts_sent, post_at}
use Rattle.mpx_post.specs.Blocks.{IsBlock}
use Rattle.mpx_neigh.specs.Neighbourhoods.{source_at}

-- whether each destination gets a block of its own
abbrev pub sends_blocks : Neighbourhood → Bool
sends_blocks Allgather = false
sends_blocks Allgatherv = false
sends_blocks Alltoall = true
sends_blocks Alltoallv = true

-- of each sender the first place that isn't passed, and how many items the blocks before it have
pub record CursorsView : Type 0 where
  pub next : List ℕ
  pub before : List ℕ

-- the blocks from the first so many of the rank's sources are taken
pub record AreTaken (topology : TopologyView) (row : RowView) (rank done : ℕ) (cursors : CursorsView) : Type 0 where
  pub met : AreMet rank (sources_at topology rank) (destinations_at topology) cursors.next done
  pub long : length cursors.before ≡ 64
  pub before : (sender : ℕ) → sender < 64 → slice_index_or cursors.before sender 0 ≡ sum (take (slice_index_or cursors.next sender 0) (counts_sent (Some topology) row sender))

-- the block for the rank from the source at this place, in what that source sends
abbrev pub IsMet : TopologyView → RowView → (rank place : ℕ) → Block → Type 0
IsMet topology row rank place block =
    let sender = source_at topology rank place in
    IsBlock (type_of (post_at row sender)) (counts_sent (Some topology) row sender) (sent_at topology rank place) (length (numbers_of (post_at row sender))) block
