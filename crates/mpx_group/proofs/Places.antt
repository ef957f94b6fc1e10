-- Ranks as places in a list of members.
use Rattle.std.proofs.Common.{◌≡◌, ℕ, ◌<◌, ◌≤◌, ℤ, pos, negsuc, ◌<ℤ◌, ◌≤ℤ◌, true, arith}
use Rattle.std.specs.Prelude.{unsigned_abs}
use Rattle.std.proofs.lemmas.Bool.{false≢true}
use Rattle.std.proofs.lemmas.Int.{ints}
use Rattle.mpx_group.specs.Choice.{is_rank}

pub unsigned_abs-below : (r : ℤ) (n m : ℕ) → pos 0 ≤ℤ r → r <ℤ pos n → n ≤ m → unsigned_abs r < m
unsigned_abs-below (pos k) n m low high l = omega (arith, ints)
unsigned_abs-below (negsuc k) n m low high l = absurd (omega (arith, ints))

pub unsigned_abs-rank : (r : ℤ) (n : ℕ) → is_rank n r ≡ true → unsigned_abs r < n
unsigned_abs-rank (pos k) n e = grind (arith, ints)
unsigned_abs-rank (negsuc k) n e = absurd (false≢true e)
