use Rattle.std.proofs.Common.{IsTrue, ◌++◌, ◌≤◌, length}
use Rattle.std.specs.Ordering.{nat_cmp}
use Rattle.std.specs.FinMap.{is_sorted}
use Rattle.join_core.specs.Max.{max_joining}
use Rattle.mpx_format.specs.Fields.{process, some_calls}
use Rattle.mpx_decode.proofs.RaisedRows.{SoFar}
use Rattle.mpx_decode.proofs.join_numbers.raise_numbers.Given as goal

abbrev pub invariant-loop : goal.invariant-loop
invariant-loop l = record {
  rising : IsTrue (is_sorted nat_cmp l.entries.items);
  so_far : SoFar nat_cmp process some_calls (λ n. n.0) max_joining l.count l.counter (l.rest ++ l.beyond) (l.bytes ++ l.fn.beyond) l.fn.entries.items l.entries.items;
  less : length l.beyond ≤ length l.fn.beyond;
}
