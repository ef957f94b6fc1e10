use Rattle.std.proofs.Common.{IsTrue, ◌++◌, ◌≤◌, length}
use Rattle.std.specs.Ordering.{nat_cmp}
use Rattle.std.specs.FinMap.{is_sorted}
use Rattle.join_nest.specs.Seen.{keyed_view}
use Rattle.mpx_board.specs.Parts.{acks_joining}
use Rattle.mpx_board.specs.Views.{view_of_acks}
use Rattle.mpx_format.specs.Fields.{acks, process}
use Rattle.mpx_format.specs.Kept.{AreKept}
use Rattle.mpx_decode.proofs.RaisedRows.{SoFar}
use Rattle.mpx_decode.proofs.join_kept.raise_processes.Given as goal

abbrev pub invariant-loop : goal.invariant-loop
invariant-loop l = record {
  rising : IsTrue (is_sorted nat_cmp l.entries.items);
  so_far : SoFar nat_cmp process acks view_of_acks acks_joining l.count l.counter (l.rest ++ l.beyond) (l.bytes ++ l.fn.beyond) l.fn.entries.items l.entries.items;
  kept : AreKept l.kept.of.items (keyed_view nat_cmp view_of_acks l.entries.items);
  less : length l.beyond ≤ length l.fn.beyond;
}
