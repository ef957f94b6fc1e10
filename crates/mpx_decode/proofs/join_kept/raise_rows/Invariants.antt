use Rattle.std.proofs.Common.{◌-◌, ◌≤◌, IsTrue, ◌++◌, length}
use Rattle.std.specs.FinMap.{is_sorted}
use Rattle.join_nest.specs.Seen.{seen}
use Rattle.mpx_name.specs.Order.{name_cmp}
use Rattle.mpx_board.specs.Parts.{numbers_joining}
use Rattle.mpx_board.specs.Views.{view_of_numbers}
use Rattle.mpx_format.specs.Fields.{name, numbers}
use Rattle.mpx_format.specs.Kept.{ArePieces}
use Rattle.mpx_decode.proofs.RaisedRows.{SoFar}
use Rattle.mpx_decode.proofs.join_kept.raise_rows.Given as goal

abbrev pub invariant-loop-done : goal.invariant-loop-done
invariant-loop-done l = record {
  within : l.done ≤ l.count;
  rising : IsTrue (is_sorted name_cmp l.entries.items);
  so_far : SoFar name_cmp name numbers view_of_numbers numbers_joining l.count l.done (l.rest ++ l.beyond) (l.bytes ++ l.fn.beyond) l.fn.entries.items l.entries.items;
  kept : ArePieces l.kept.pieces.items (seen view_of_numbers l.entries.items);
  less : length l.beyond ≤ length l.fn.beyond;
}

abbrev pub decreases-loop-done : goal.decreases-loop-done
decreases-loop-done l = l.count - l.done
