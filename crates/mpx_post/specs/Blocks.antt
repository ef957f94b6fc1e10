-- Items in blocks.
use Rattle.std.specs.Prelude.{◌≡◌, ℕ, zero, suc, ◌+◌, ◌*◌, ◌≤◌, List, [], ◌∷◌, ◌++◌, ℤ, take, drop, Option, Some, None, slice_index_or}
use Rattle.mpx_num.specs.declared.types.Ty.{Ty}
use Rattle.mpx_num.specs.Types.{item_len}
use Rattle.mpx_post.specs.declared.block.Block.{Block}
use Rattle.mpx_kind.specs.declared.kinds.Seat.{Seat}
use Rattle.mpx_kind.specs.declared.kinds.Sent.{Sent}
use Rattle.mpx_kind.specs.declared.kinds.Sent.TheVariants.{Any, Scounts, Rcounts}
use Rattle.mpx_kind.specs.Kinds.{number_in}

-- a list, so many times
abbrev pub repeated : {A : Type 0} → ℕ → List A → List A
repeated zero xs = []
repeated (suc n) xs = xs ++ repeated n xs

-- the numbers of items of the blocks that a member sends, where the kind tells them
abbrev pub blocks_sent : {A : Type 0} → Sent → Seat → (scounts rcounts : List A) → Option (List A)
blocks_sent Any seat scounts rcounts = None
blocks_sent (Scounts number) seat scounts rcounts = Some (repeated (number_in number seat) scounts)
blocks_sent (Rcounts number) seat scounts rcounts = Some (repeated (number_in number seat) rcounts)

-- numbers cut into blocks of so many items each, one after the other
abbrev pub blocks : Ty → List ℕ → List ℤ → List (List ℤ)
blocks ty [] nums = []
blocks ty (count ∷ counts) nums = take (count * item_len ty) nums ∷ blocks ty counts (drop (count * item_len ty) nums)

-- the block at this place
abbrev pub block_at : Ty → List ℕ → List ℤ → ℕ → List ℤ
block_at ty counts nums i = slice_index_or (blocks ty counts nums) i []

-- the numbers of the items of a block
abbrev pub part : Ty → Block → List ℤ → List ℤ
part ty block nums = take (block.count * item_len ty) (drop (block.first * item_len ty) nums)

-- the block at this place of blocks of so many items each, among so many numbers
pub record IsBlock (ty : Ty) (counts : List ℕ) (place numbers : ℕ) (block : Block) : Type 0 where
  pub at : (nums : List ℤ) → part ty block nums ≡ block_at ty counts nums place
  pub within : (block.first + block.count) * item_len ty ≤ numbers
