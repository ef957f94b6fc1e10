use Rattle.std.proofs.Common.{IsTrue, ◌++◌, ◌≤◌, length}
use Rattle.std.specs.FinMap.{is_sorted}
use Rattle.mpx_decode.proofs.RaisedRows.{SoFar}
use Rattle.mpx_decode.proofs.join_rows.raise_entries.Given as goal

abbrev pub invariant-loop : goal.invariant-loop
invariant-loop g l = record {
  rising : IsTrue (is_sorted g.K.Ord.cmp l.entries.items);
  so_far : SoFar g.K.Ord.cmp g.K.WireKey.format (g.J.WireJoin.wire l.version) g.J.WireJoin.view g.J.WireJoin.joining l.count l.counter (l.rest ++ l.beyond) (l.bytes ++ l.fn.beyond) l.fn.entries.items l.entries.items;
  less : length l.beyond ≤ length l.fn.beyond;
}
