use Rattle.std.proofs.Common.{◌≤◌, length}
use Rattle.std.specs.Ordering.{nat_cmp}
use Rattle.join_core.specs.Max.{max_joining}
use Rattle.mpx_format.specs.Fields.{process, some_calls}
use Rattle.mpx_decode.specs.Raising.{RaisesRows, row}
use Rattle.mpx_decode.proofs.told_rows.behind_rows.Given as goal

abbrev pub invariant-loop-i : goal.invariant-loop-i
invariant-loop-i l = record {
  most : l.i ≤ length l.rows;
  joined : RaisesRows nat_cmp (λ n. n.0) (row process some_calls) max_joining l.i l.bytes l.rest l.rows l.rows;
}
