-- Exchanges whose blocks are all as long, and the rows of their parts (MPI 4.1, sections 6.4 to 6.8).
use Rattle.std.specs.Prelude.{◌≡◌, ◌==◌, ℕ, ◌<◌, Bool, List, length, cond, map}
use Rattle.std.specs.List.{All}
use Rattle.mpx_num.specs.ItemList.{AreItems}
use Rattle.mpx_kind.specs.declared.kinds.Kind.TheVariants as K
use Rattle.mpx_kind.specs.declared.kinds.Exchange.{Exchange}
use Rattle.mpx_kind.specs.declared.kinds.Exchange.TheVariants.{Barrier, Bcast, Gather, Gatherv, Scatter, Scatterv, Allgather, Allgatherv, Alltoall, Alltoallv}
use Rattle.mpx_post.specs.Posts.{root_of, type_of, numbers_of}
use Rattle.mpx_post.specs.Rows.{RowView}
use Rattle.mpx_post.specs.Agreement.{IsFine, first_of, post_at}
use Rattle.mpx_call.specs.Parts.{put_together}

-- the exchanges whose blocks are all as long
abbrev pub HasEqualBlocks : Exchange → Type 0
HasEqualBlocks Barrier = ⊥
HasEqualBlocks Bcast = Unit {0}
HasEqualBlocks Gather = Unit {0}
HasEqualBlocks Gatherv = ⊥
HasEqualBlocks Scatter = Unit {0}
HasEqualBlocks Scatterv = ⊥
HasEqualBlocks Allgather = Unit {0}
HasEqualBlocks Allgatherv = ⊥
HasEqualBlocks Alltoall = Unit {0}
HasEqualBlocks Alltoallv = ⊥

-- how many blocks a member gives: at the root of a bcast one, at that of a scatter one for each member, and elsewhere none; in an alltoall one for
-- each member; else one
abbrev pub blocks_given : Exchange → (size : ℕ) → (at_root : Bool) → ℕ
blocks_given Bcast size at_root = cond at_root 1 0
blocks_given Scatter size at_root = cond at_root size 0
blocks_given Alltoall size at_root = size
blocks_given exchange size at_root = 1

-- how many blocks a member gets: in a gather, an allgather or an alltoall one of each member; else one
abbrev pub blocks_got : Exchange → (size : ℕ) → ℕ
blocks_got Gather size = size
blocks_got Allgather size = size
blocks_got Alltoall size = size
blocks_got exchange size = 1

-- the row of a part: a fine row of the same exchange in as many ranks, by the same root and of the same type
pub record IsPart (exchange : Exchange) (row part : RowView) : Type 0 where
  pub fine : IsFine part
  pub kind : (first_of part).kind ≡ K.Exchange exchange
  pub ranks : length part ≡ length row
  pub root : root_of (first_of part) ≡ root_of (first_of row)
  pub ty : type_of (first_of part) ≡ type_of (first_of row)
  pub items : (rank : ℕ) → rank < length row → AreItems (type_of (first_of row)) (numbers_of (post_at part rank))

-- the row of the one call: a fine row, in which what each rank gives is what it gives to the parts, put together block by block
pub record IsPutTogether (exchange : Exchange) (row : RowView) (parts : List RowView) : Type 0 where
  pub fine : IsFine row
  pub kind : (first_of row).kind ≡ K.Exchange exchange
  pub all : All (IsPart exchange row) parts
  pub given : (rank : ℕ) → rank < length row → put_together (blocks_given exchange (length row) (rank == root_of (first_of row))) (map (λ (part : RowView). numbers_of (post_at part rank)) parts) ≡ numbers_of (post_at row rank)
