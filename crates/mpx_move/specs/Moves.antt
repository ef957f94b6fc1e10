-- What exchanges of blocks give (MPI 4.1, sections 6.3 to 6.8).
use Rattle.std.specs.Prelude.{ℕ, ◌==◌, List, ℤ, length, cond, None}
use Rattle.std.specs.List.{flat_map}
use Rattle.mpx_kind.specs.declared.kinds.Kind.{Kind}
use Rattle.mpx_kind.specs.declared.kinds.Kind.TheVariants as K
use Rattle.mpx_kind.specs.declared.kinds.Exchange.{Exchange}
use Rattle.mpx_kind.specs.declared.kinds.Exchange.TheVariants.{Barrier, Bcast, Gather, Gatherv, Scatter, Scatterv, Allgather, Allgatherv, Alltoall, Alltoallv}
use Rattle.mpx_post.specs.declared.value.Value.{Value}
use Rattle.mpx_post.specs.declared.value.Value.TheVariants.{Nothing}
use Rattle.mpx_birth.specs.Births.{upto}
use Rattle.mpx_post.specs.Posts.{root_of, type_of, numbers_of}
use Rattle.mpx_post.specs.Rows.{RowView}
use Rattle.mpx_post.specs.Agreement.{counts_sent, post_at, first_of, root_post}
use Rattle.mpx_post.specs.Blocks.{block_at}
use Rattle.mpx_post.specs.Values.{as_items}

-- all that is given, in rank order
abbrev pub joined : RowView → List ℤ
joined row = flat_map numbers_of row

-- the block for this receiver of what the member with this rank sends
abbrev pub block_for : RowView → (receiver sender : ℕ) → List ℤ
block_for row receiver sender = block_at (type_of (post_at row sender)) (counts_sent None row sender) (numbers_of (post_at row sender)) receiver

-- the blocks for this receiver of all senders, in rank order
abbrev pub blocks_for : RowView → ℕ → List ℤ
blocks_for row receiver = flat_map (block_for row receiver) (upto (length row))

-- what an exchange gives the member with this rank
abbrev pub move_of : Exchange → RowView → ℕ → Value
move_of Barrier row rank = Nothing
move_of Bcast row rank = as_items row (numbers_of (root_post row))
move_of Gather row rank = cond (rank == root_of (first_of row)) (as_items row (joined row)) Nothing
move_of Gatherv row rank = cond (rank == root_of (first_of row)) (as_items row (joined row)) Nothing
move_of Scatter row rank = as_items row (block_for row rank (root_of (first_of row)))
move_of Scatterv row rank = as_items row (block_for row rank (root_of (first_of row)))
move_of Allgather row rank = as_items row (joined row)
move_of Allgatherv row rank = as_items row (joined row)
move_of Alltoall row rank = as_items row (blocks_for row rank)
move_of Alltoallv row rank = as_items row (blocks_for row rank)

-- what a fine row of this kind gives the member with this rank: other kinds than exchanges give nothing here
abbrev pub move_value : Kind → RowView → ℕ → Value
move_value (K.Exchange exchange) row rank = move_of exchange row rank
move_value kind row rank = Nothing
