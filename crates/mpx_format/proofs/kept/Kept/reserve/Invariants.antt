use Rattle.std.proofs.Common.{◌≡◌, ℕ, ◌+◌, length}
use Rattle.mpx_format.specs.Kept.{pieces_of}
use Rattle.mpx_format.proofs.kept.Kept.reserve.Given as goal

abbrev pub invariant-loop : goal.invariant-loop
invariant-loop l = record {
  same : (p : ℕ) → pieces_of l.self.of.items p ≡ pieces_of l.fn.self.of.items p;
  len : length l.self.of.items ≡ l.counter;
}
