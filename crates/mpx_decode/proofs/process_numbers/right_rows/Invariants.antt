use Rattle.std.proofs.Common.{◌≡◌, ◌≤◌, ℕ, IsTrue, None, length, true}
use Rattle.std.specs.Prelude.{vec_capacity}
use Rattle.std.specs.Ordering.{nat_cmp}
use Rattle.std.specs.FinMap.{is_sorted}
use Rattle.join_nest.specs.Seen.{seen}
use Rattle.mpx_format.specs.Fields.{process, some_calls}
use Rattle.mpx_format.specs.Rising.{always, entry, last_of, may_come}
use Rattle.mpx_decode.proofs.Loop.{ReadSoFar}
use Rattle.mpx_decode.proofs.process_numbers.right_rows.Given as goal

abbrev pub invariant-loop : goal.invariant-loop
invariant-loop l = record {
  read : ReadSoFar (entry nat_cmp None process some_calls always) l.count l.counter (seen (λ n. n.0) l.rows.items) l.rest l.bytes;
  rising : IsTrue (is_sorted nat_cmp l.rows.items);
  next : (p : ℕ) → l.least ≤ p → may_come nat_cmp None (last_of l.rows.items) p ≡ true;
  len : length l.rows.items ≡ l.counter;
  capacity : vec_capacity l.rows ≡ l.count;
}
