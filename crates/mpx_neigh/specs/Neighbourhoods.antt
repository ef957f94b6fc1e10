-- What neighbourhood exchanges give (MPI 4.1, section 8.6).
use Rattle.std.specs.Prelude.{ℕ, List, ℤ, length, Option, Some}
use Rattle.std.specs.List.{flat_map}
use Rattle.std.specs.Option.{option_map_or}
use Rattle.mpx_birth.specs.declared.edges.Neighbour.{Neighbour}
use Rattle.mpx_birth.specs.Births.{upto}
use Rattle.mpx_birth.specs.Topologies.{TopologyView, sources_at}
use Rattle.mpx_birth.specs.Ends.{rank_at, sent_at}
use Rattle.mpx_kind.specs.declared.kinds.Kind.{Kind}
use Rattle.mpx_kind.specs.declared.kinds.Kind.TheVariants as K
use Rattle.mpx_kind.specs.declared.kinds.Neighbourhood.{Neighbourhood}
use Rattle.mpx_kind.specs.declared.kinds.Neighbourhood.TheVariants.{Allgather, Allgatherv, Alltoall, Alltoallv}
use Rattle.mpx_post.specs.declared.value.Value.{Value}
use Rattle.mpx_post.specs.declared.value.Value.TheVariants.{Nothing}
use Rattle.mpx_post.specs.Posts.{numbers_of, type_of}
use Rattle.mpx_post.specs.Rows.{RowView}
use Rattle.mpx_post.specs.Agreement.{counts_sent, post_at}
use Rattle.mpx_post.specs.Blocks.{block_at}
use Rattle.mpx_post.specs.Values.{as_items}

-- who stands at this place among the sources of the member with this rank
abbrev pub source_at : TopologyView → (rank place : ℕ) → ℕ
source_at topology rank place = rank_at (sources_at topology rank) place

-- of what that source sends, the block at the place that meets this one
abbrev pub block_met : TopologyView → RowView → (rank place : ℕ) → List ℤ
block_met topology row rank place =
    let sender = rank_at (sources_at topology rank) place in
    block_at (type_of (post_at row sender)) (counts_sent (Some topology) row sender) (numbers_of (post_at row sender)) (sent_at topology rank place)

-- all that the member's sources give, in their order
abbrev pub sources_joined : TopologyView → RowView → ℕ → List ℤ
sources_joined topology row rank = flat_map (λ (source : Neighbour). numbers_of (post_at row source.rank)) (sources_at topology rank)

-- the block for the member from each of its sources, in their order
abbrev pub blocks_met : TopologyView → RowView → ℕ → List ℤ
blocks_met topology row rank = flat_map (block_met topology row rank) (upto (length (sources_at topology rank)))

-- the numbers that a neighbourhood exchange gives the member with this rank
abbrev pub neigh_of : Neighbourhood → TopologyView → RowView → ℕ → List ℤ
neigh_of Allgather topology row rank = sources_joined topology row rank
neigh_of Allgatherv topology row rank = sources_joined topology row rank
neigh_of Alltoall topology row rank = blocks_met topology row rank
neigh_of Alltoallv topology row rank = blocks_met topology row rank

-- what it gives the member; nothing where there are no edges
abbrev pub neigh_given : Neighbourhood → Option TopologyView → RowView → ℕ → Value
neigh_given exchange topology row rank = option_map_or (λ (edges : TopologyView). as_items row (neigh_of exchange edges row rank)) topology Nothing

-- what a fine row of this kind gives the member with this rank: other kinds than neighbourhood exchanges give nothing here
abbrev pub neigh_value : Kind → Option TopologyView → RowView → ℕ → Value
neigh_value (K.Neighbourhood exchange) topology row rank = neigh_given exchange topology row rank
neigh_value kind topology row rank = Nothing
