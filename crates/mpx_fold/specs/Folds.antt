-- What reductions and scans give (MPI 4.1, sections 6.9 to 6.11).
use Rattle.std.specs.Prelude.{ℕ, Bool, ◌+◌, ◌==◌, List, ℤ, length, map, take, cond}
use Rattle.mpx_num.specs.declared.own.Operation.{Operation}
use Rattle.mpx_num.specs.Operations.{fold_items}
use Rattle.mpx_kind.specs.declared.kinds.Kind.{Kind}
use Rattle.mpx_kind.specs.declared.kinds.Kind.TheVariants as K
use Rattle.mpx_kind.specs.declared.kinds.Reduction.{Reduction}
use Rattle.mpx_kind.specs.declared.kinds.Reduction.TheVariants.{Reduce, Allreduce, ReduceScatterBlock, ReduceScatter, Scan, Exscan}
use Rattle.mpx_post.specs.declared.value.Value.{Value}
use Rattle.mpx_post.specs.declared.value.Value.TheVariants.{Nothing, Absent}
use Rattle.mpx_kind.specs.Kinds.{fields_of}
use Rattle.mpx_post.specs.Posts.{root_of, operation_given, type_of, numbers_of}
use Rattle.mpx_post.specs.Rows.{RowView}
use Rattle.mpx_post.specs.Agreement.{first_of}
use Rattle.mpx_post.specs.Blocks.{repeated, block_at}
use Rattle.mpx_post.specs.Values.{as_items}

-- whether the row is of a reduction: its kind has an operation
abbrev pub reduces : RowView → Bool
reduces row = (fields_of (first_of row).kind).op

-- what the first n members give, combined in rank order, item by item, by the operation and the type that rank 0 names and the
-- job's own operations
abbrev pub folded : List Operation → RowView → ℕ → List ℤ
folded ops row n = fold_items ops (operation_given (first_of row)) (type_of (first_of row)) (map numbers_of (take n row))

-- the rank's block of what all give, where its blocks have so many items
abbrev pub folded_block : List Operation → RowView → List ℕ → ℕ → List ℤ
folded_block ops row counts rank = block_at (type_of (first_of row)) counts (folded ops row (length row)) rank

-- what a reduction gives the member with this rank
abbrev pub fold_of : List Operation → Reduction → RowView → ℕ → Value
fold_of ops Reduce row rank = cond (rank == root_of (first_of row)) (as_items row (folded ops row (length row))) Nothing
fold_of ops Allreduce row rank = as_items row (folded ops row (length row))
fold_of ops ReduceScatterBlock row rank = as_items row (folded_block ops row (repeated (length row) (first_of row).rcounts) rank)
fold_of ops ReduceScatter row rank = as_items row (folded_block ops row (first_of row).rcounts rank)
fold_of ops Scan row rank = as_items row (folded ops row (rank + 1))
fold_of ops Exscan row rank = cond (rank == 0) Absent (as_items row (folded ops row rank))

-- what a fine row of this kind gives the member with this rank: other kinds than reductions give nothing here
abbrev pub fold_value : Kind → List Operation → RowView → ℕ → Value
fold_value (K.Reduction reduction) ops row rank = fold_of ops reduction row rank
fold_value kind ops row rank = Nothing
