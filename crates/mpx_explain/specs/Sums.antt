-- Exact sums and products in the making, by the program's values.
use Rattle.std.specs.Prelude.{◌≡◌, ℕ, ◌<◌, ◌≤◌, ◌^◌, Bool, true, false, List, ◌++◌, Vec, length, map, slice_get, slice_index_or, Option, Some, None, option_and_then, ℤ, unsigned_abs, IsSomeAnd}
use Rattle.std.specs.List.{AllZip, flat_map, range_with_len}
use Rattle.mpx_statement.specs.declared.statement.Statement.{Statement}
use Rattle.mpx_explain.specs.Overflows.{IsToldAs, PastView, Posts, combined_kept, draft_to, exact_upto, given_to, is_posted, is_product, past_by, summed_in, taken}
use Rattle.mpx_explain.specs.declared.exact.Exact.{Exact}
use Rattle.mpx_explain.specs.declared.exact.Exact.TheVariants.{Number, Far, Unknown}
use Rattle.mpx_explain.specs.declared.overflows.Overflow.{Overflow}
use Rattle.mpx_explain.specs.declared.past.Row.{Row}

-- it is what numbers come to; of a product perhaps that this is past 128 bits
abbrev pub IsExact : (is_product : Bool) → Exact → (comes : Option ℤ) → Type 0
IsExact is_product (Number z) comes = comes ≡ Some z
IsExact is_product Unknown comes = comes ≡ None
IsExact true Far comes = IsSomeAnd comes (λ whole. 2 ^ 127 ≤ unsigned_abs whole)
IsExact false Far comes = ⊥

-- what numbers come to with the one that is given
abbrev pub with_given : (is_product : Bool) → (comes given : Option ℤ) → Option ℤ
with_given is_product comes given = option_and_then (λ before. option_and_then (combined_kept is_product before) given) comes

-- each is combined with the number at its place
pub record AreCombined (is_product : Bool) (given : List ℤ) (old new : List Exact) : Type 0 where
  pub len : length new ≡ length old
  pub each : (index : ℕ) → index < length old → (comes : Option ℤ) → IsExact is_product (slice_index_or old index Unknown) comes → IsExact is_product (slice_index_or new index Unknown) (with_given is_product comes (slice_get given index))

-- of each rank the places of its posts
abbrev pub posts_in : {Z : Type 0} → List (Vec ℕ Z) → Posts
posts_in all = map (λ posts. posts.items) all

abbrev pub statements_in : Row → List (List Statement)
statements_in row = row.script.now.statements

-- each rank has posted to the call; rank 0 posts this to it, a sum or product of signed numbers
pub record IsRow (row : Row) : Type 0 where
  pub posted : is_posted (posts_in row.posts.now) row.call ≡ true
  pub draft : draft_to (statements_in row) (posts_in row.posts.now) row.call 0 ≡ Some row.draft.now
  pub reduces : summed_in row.draft.now ≡ Some row.reduction

-- what is past its type of a rank's result
abbrev pub past_for : Row → (rank : ℕ) → List PastView
past_for row rank = past_by (statements_in row) (posts_in row.posts.now) row.call row.draft.now row.reduction rank

-- the same of the first so many ranks
abbrev pub past_upto : Row → (ranks : ℕ) → List PastView
past_upto row ranks = flat_map (past_for row) (range_with_len 0 ranks)

-- how many ranks count for a rank
abbrev pub taken_by : Row → (rank : ℕ) → ℕ
taken_by row rank = taken row.reduction (length (statements_in row)) rank

-- what the first so many ranks give at an index comes to
abbrev pub comes_to : Row → (ranks index : ℕ) → Option ℤ
comes_to row ranks index = exact_upto (is_product row.draft.now.op) (given_to (statements_in row) (posts_in row.posts.now) row.call index) ranks

-- they are what the first so many ranks give, combined
pub record AreUpto (row : Row) (ranks : ℕ) (sums : List Exact) : Type 0 where
  pub len : length sums ≡ length row.draft.now.items
  pub each : (index : ℕ) → index < length sums → IsExact (is_product row.draft.now.op) (slice_index_or sums index Unknown) (comes_to row ranks index)

-- behind those that are told these are
abbrev pub AreTold : (more : List PastView) → (old new : List Overflow) → Type 0
AreTold more old new = (told : List PastView) → AllZip IsToldAs old told → AllZip IsToldAs new (told ++ more)
