use Rattle.std.proofs.Common.{◌≡◌, ◌*◌, ◌≤◌, IsTrue, length}
use Rattle.std.specs.Ordering.{nat_cmp}
use Rattle.std.specs.FinMap.{is_sorted}
use Rattle.join_core.specs.Max.{max_joining}
use Rattle.mpx_format.specs.Fields.{process, some_calls}
use Rattle.mpx_decode.specs.Raising.{RaisesRows, row}
use Rattle.mpx_decode.proofs.join_numbers.raise_fours.Given as goal

abbrev pub invariant-loop-i : goal.invariant-loop-i
invariant-loop-i l = record {
  most : l.i ≤ l.fours;
  joined : RaisesRows nat_cmp (λ n. n.0) (row process some_calls) max_joining (4 * l.i) l.bytes l.rest l.fn.entries.items l.entries.items;
  rising : IsTrue (is_sorted nat_cmp l.entries.items);
  len : length l.entries.items ≡ length l.fn.entries.items;
}
