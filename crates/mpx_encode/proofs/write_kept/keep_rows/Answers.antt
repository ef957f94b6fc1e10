use Rattle.std.proofs.Common.{◌≡◌, ◌*◌, [], ◌∷◌, ◌++◌, sym, ap, ◌∙◌, subst, take, rules}
use Rattle.std.specs.List.{list_all}
use Rattle.join_nest.specs.Seen.{seen}
use Rattle.mpx_board.specs.Tidy.{is_tidy_numbers}
use Rattle.mpx_board.specs.Views.{view_of_numbers}
use Rattle.mpx_format.specs.Kept.{ArePieces, IsPiece, Row}
use Rattle.mpx_encode.proofs.Keeping.{passed_first, passed_behind, one_unknown, piece_kept, rows_behind}
use Rattle.mpx_encode.proofs.write_kept.keep_rows.Goals.{then-len-eq0+in_ok-keep_piece, else-len-eq0}
use Rattle.mpx_encode.proofs.write_kept.keep_rows.Goals as goal

pub loop-preserved : goal.loop-preserved
loop-preserved c =
    let ps = c.loop.pieces.items in
    let rows = seen view_of_numbers c.args.rows.now in
    let more : c.push.new.self.items ≡ ps ++ c.new.result ∷ [] = search rules in
    let unknown : c.push.new.self.items ≡ ps ++ [] ∷ [] = more ∙ ap (λ p. ps ++ p ∷ []) c.new.ensures in
    subst (λ l. ArePieces l rows) (sym unknown) (one_unknown ps rows c.loop.invariant)

pub keep_piece-requires-clause-tidy : goal.keep_piece-requires-clause-tidy
keep_piece-requires-clause-tidy c =
    let k = c.loop-place.place in
    let rows = seen view_of_numbers c.args.rows.now in
    let rest = seen view_of_numbers c.loop-place.rest.now in
    let tidy = λ (e : Row). is_tidy_numbers e.1 in
    ap (list_all tidy) c.split_piece.ensures.front ∙ passed_first 8 rest tidy (ap (list_all tidy) c.loop-place.invariant.rest ∙ passed_behind (8 * k) rows tidy c.requires.tidy)

pub returns-in_err-keep_piece : goal.returns-in_err-keep_piece
returns-in_err-keep_piece c =
    let k = c.loop-place.place in
    let ps = c.loop-place.pieces.items in
    let rows = seen view_of_numbers c.args.rows.now in
    let p = c.keep_piece.new.piece in
    piece_kept k ps p rows (subst (IsPiece p) (c.split_piece.ensures.front ∙ ap (take 8) c.loop-place.invariant.rest) c.keep_piece.ensures) c.loop-place.invariant.kept

pub loop-place-preserved : goal.loop-place-preserved
loop-place-preserved c =
    let k = c.loop-place.place in
    let ps = c.loop-place.pieces.items in
    let rows = seen view_of_numbers c.args.rows.now in
    let rest = seen view_of_numbers c.loop-place.rest.now in
    record {
      kept = elim c.if-len-eq0.branch [
        | then-len-eq0+in_ok-keep_piece w ↦
            let p = w.keep_piece.new.piece in
            let made = piece_kept k ps p rows (subst (IsPiece p) (c.split_piece.ensures.front ∙ ap (take 8) c.loop-place.invariant.rest) w.keep_piece.ensures) c.loop-place.invariant.kept in
            subst (λ v. ArePieces v.items rows) (sym w.pieces-is) made
        | else-len-eq0 w ↦ subst (λ v. ArePieces v.items rows) (sym w.pieces-is) c.loop-place.invariant.kept
      ];
      rest = c.split_piece.ensures.behind ∙ rows_behind k rest rows c.loop-place.invariant.rest;
    }
