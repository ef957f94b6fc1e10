-- The row of posts of a call that gives results of all items, and the rows of its parts.
use Rattle.std.specs.Prelude.{◌≡◌, ℕ, ◌<◌, List, [], ℤ, length}
use Rattle.std.specs.List.{All, flat_map}
use Rattle.mpx_num.specs.ItemList.{AreItems}
use Rattle.mpx_kind.specs.declared.kinds.Reduction.{Reduction}
use Rattle.mpx_kind.specs.declared.kinds.Reduction.TheVariants.{Reduce, Allreduce, ReduceScatterBlock, ReduceScatter, Scan, Exscan}
use Rattle.mpx_post.specs.declared.value.Value.{Value}
use Rattle.mpx_post.specs.declared.value.Value.TheVariants.{Items, Nothing, Absent}
use Rattle.mpx_post.specs.Posts.{root_of, operation_given, type_of, numbers_of}
use Rattle.mpx_post.specs.Rows.{RowView}
use Rattle.mpx_post.specs.Agreement.{first_of, post_at}

-- the row of a part: of as many ranks, by the same root, operation and type. All ranks give it as many items
pub record IsPartOf (row part : RowView) : Type 0 where
  pub ranks : length part ≡ length row
  pub root : root_of (first_of part) ≡ root_of (first_of row)
  pub operation : operation_given (first_of part) ≡ operation_given (first_of row)
  pub ty : type_of (first_of part) ≡ type_of (first_of row)
  pub items : (rank : ℕ) → rank < length row → AreItems (type_of (first_of row)) (numbers_of (post_at part rank))
  pub even : (rank : ℕ) → rank < length row → length (numbers_of (post_at part rank)) ≡ length (numbers_of (first_of part))

-- what each rank gives is what it gives to the parts, one after the other
pub record IsCutInto (row : RowView) (parts : List RowView) : Type 0 where
  pub all : All (IsPartOf row) parts
  pub given : (rank : ℕ) → rank < length row → numbers_of (post_at row rank) ≡ flat_map (λ (part : RowView). numbers_of (post_at part rank)) parts

-- the reductions that give a result of each item (MPI 4.1, sections 6.9 and 6.11)
abbrev pub GivesOfEach : Reduction → Type 0
GivesOfEach Reduce = Unit {0}
GivesOfEach Allreduce = Unit {0}
GivesOfEach ReduceScatterBlock = ⊥
GivesOfEach ReduceScatter = ⊥
GivesOfEach Scan = Unit {0}
GivesOfEach Exscan = Unit {0}

-- the numbers of what a call gives
abbrev pub value_numbers : Value → List ℤ
value_numbers (Items items) = items.nums
value_numbers Nothing = []
value_numbers Absent = []
