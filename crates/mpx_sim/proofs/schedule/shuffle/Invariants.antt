use Rattle.std.proofs.Common.{◌≡◌, ◌+◌, ℕ, length}
use Rattle.std.specs.List.Sorted.{IsPermutation}
use Rattle.mpx_sim.specs.Draws.{drawn_times, shuffled}
use Rattle.mpx_sim.proofs.schedule.shuffle.Given as goal

abbrev pub invariant-loop-i : goal.invariant-loop-i
invariant-loop-i g l = record {
  items : IsPermutation l.fn.items.items l.items.items;
  words : l.words ≡ drawn_times l.i l.fn.words;
  rest : (left : ℕ) → l.i + left ≡ length l.fn.items.items → shuffled l.i left l.words l.items.items ≡ shuffled 0 (length l.fn.items.items) l.fn.words l.fn.items.items;
}
