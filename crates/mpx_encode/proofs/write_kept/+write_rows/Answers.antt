use Rattle.std.proofs.Common.{◌∙◌, ap, rules}
use Rattle.std.specs.List.{list_all}
use Rattle.join_nest.specs.Seen.{seen}
use Rattle.mpx_board.specs.Views.{view_of_numbers}
use Rattle.mpx_format.specs.Kept.{row_fits}
use Rattle.mpx_encode.proofs.Keeping.{first_piece, pieces_behind, passed_behind}
use Rattle.mpx_encode.proofs.write_kept.+write_rows.Goals as goal

pub write_piece-requires-clause-kept : goal.write_piece-requires-clause-kept
write_piece-requires-clause-kept t c =
    first_piece c.args.pieces.now c.piece-item.result (seen view_of_numbers c.args.rows.now) (seen view_of_numbers c.split_piece.result.0.now) c.in-len1-up.len_at_least c.piece-item.is c.split_piece.ensures.front c.requires.kept

pub write_rows-requires : goal.write_rows-requires
write_rows-requires t c =
    let rows = seen view_of_numbers c.args.rows.now in (
      search rules,
      (
        ap (list_all row_fits) c.split_piece.ensures.behind ∙ passed_behind 8 rows row_fits c.requires.fits,
        pieces_behind c.args.pieces.now rows (seen view_of_numbers c.split_piece.result.1.now) c.in-len1-up.len_at_least c.split_piece.ensures.behind c.requires.kept,
      ),
    )
