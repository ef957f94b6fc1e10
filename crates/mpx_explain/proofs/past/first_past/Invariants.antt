use Rattle.std.proofs.Common.{◌≡◌, ◌<◌, ℕ, ℤ, Bool, Option, None, length}
use Rattle.std.specs.Prelude.{slice_index_or}
use Rattle.mpx_explain.specs.Overflows.{first_past}
use Rattle.mpx_explain.specs.Sums.{IsExact}
use Rattle.mpx_explain.specs.declared.exact.Exact.TheVariants.{Unknown}
use Rattle.mpx_explain.proofs.past.first_past.Given as goal

abbrev pub invariant-loop-index : goal.invariant-loop-index
invariant-loop-index l = (is_product : Bool) (comes : ℕ → Option ℤ) → ((index : ℕ) → index < length l.numbers → IsExact is_product (slice_index_or l.numbers index Unknown) (comes index)) → first_past l.ty l.bounds comes l.index ≡ None
