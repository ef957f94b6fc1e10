use Rattle.std.proofs.Common.{◌≡◌, length, Some, None, sym, ap, ◌∙◌, rules}
use Rattle.std.specs.List.{list_all}
use Rattle.join_nest.specs.Seen.{seen}
use Rattle.mpx_board.specs.Tidy.{is_tidy_numbers}
use Rattle.mpx_board.specs.Views.{view_of_numbers}
use Rattle.mpx_format.specs.Fields.{name, numbers}
use Rattle.mpx_format.specs.Kept.{Row}
use Rattle.mpx_encode.specs.Entries.{entry_spelled, entries_spelled}
use Rattle.mpx_encode.specs.Room.{room_left}
use Rattle.mpx_encode.proofs.Keeping.{first_piece, pieces_behind, passed_behind, stops_first, goes_on_behind}
use Rattle.mpx_encode.proofs.write_kept.+room_after_rows.Goals as goal

pub room_after_piece-requires-clause-kept : goal.room_after_piece-requires-clause-kept
room_after_piece-requires-clause-kept t c =
    first_piece c.args.pieces.now c.piece-item.result (seen view_of_numbers c.args.rows.now) (seen view_of_numbers c.split_piece.result.0.now) c.in-len1-up.len_at_least c.piece-item.is c.split_piece.ensures.front c.requires.kept

pub returns-in_err-left-in-len1-up-clause-value : goal.returns-in_err-left-in-len1-up-clause-value
returns-in_err-left-in-len1-up-clause-value t c =
    let first = seen view_of_numbers c.split_piece.result.0.now in
    let short : room_left (length (entries_spelled name numbers first)) c.args.room ≡ None = search rules in
    c.from_residual.ensures ∙ sym (stops_first 8 (seen view_of_numbers c.args.rows.now) (entry_spelled name numbers) c.args.room first c.split_piece.ensures.front short)

pub room_after_rows-requires : goal.room_after_rows-requires
room_after_rows-requires t c =
    let rows = seen view_of_numbers c.args.rows.now in
    let tidy = λ (e : Row). is_tidy_numbers e.1 in (
      search rules,
      (
        ap (list_all tidy) c.split_piece.ensures.behind ∙ passed_behind 8 rows tidy c.requires.tidy,
        pieces_behind c.args.pieces.now rows (seen view_of_numbers c.split_piece.result.1.now) c.in-len1-up.len_at_least c.split_piece.ensures.behind c.requires.kept,
      ),
    )

pub returns-in_ok-left-in-len1-up-clause-value : goal.returns-in_ok-left-in-len1-up-clause-value
returns-in_ok-left-in-len1-up-clause-value t c =
    let first = seen view_of_numbers c.split_piece.result.0.now in
    let behind = seen view_of_numbers c.split_piece.result.1.now in
    let left : room_left (length (entries_spelled name numbers first)) c.args.room ≡ Some c.in_ok-left-in-len1-up.left = search rules in
    c.room_after_rows.ensures.value
    ∙ sym (goes_on_behind 8 (seen view_of_numbers c.args.rows.now) (entry_spelled name numbers) c.args.room c.in_ok-left-in-len1-up.left first behind c.split_piece.ensures.front c.split_piece.ensures.behind left)
