use Rattle.std.proofs.Common.{◌≡◌, ◌*◌, drop}
use Rattle.join_nest.specs.Seen.{seen}
use Rattle.mpx_board.specs.Views.{view_of_numbers}
use Rattle.mpx_format.specs.Kept.{ArePieces, piece_rows}
use Rattle.mpx_encode.proofs.write_kept.keep_rows.Given as goal

abbrev pub invariant-loop : goal.invariant-loop
invariant-loop l = ArePieces l.pieces.items (seen view_of_numbers l.rows)

abbrev pub invariant-loop-place : goal.invariant-loop-place
invariant-loop-place l = record {
  kept : ArePieces l.pieces.items (seen view_of_numbers l.rows);
  rest : seen view_of_numbers l.rest ≡ drop (piece_rows * l.place) (seen view_of_numbers l.rows);
}
