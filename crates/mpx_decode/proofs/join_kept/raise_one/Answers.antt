use Rattle.std.proofs.Common.{◌≤◌, length, subst, sym, arith}
use Rattle.std.specs.FinMap.{entries}
use Rattle.mpx_board.specs.Views.{view_of_acks}
use Rattle.mpx_format.specs.Kept.{ArePieces}
use Rattle.mpx_format.proofs.Pieces.{none_kept}
use Rattle.mpx_decode.proofs.KeptRows.{no_pieces}
use Rattle.mpx_decode.proofs.join_kept.raise_one.Goals as goal

pub returns-clause-kept : goal.returns-clause-kept
returns-clause-kept c =
    let le : length c.args.kept.now.of.items ≤ c.args.process = omega arith in
    subst (λ ps. ArePieces ps (entries (view_of_acks c.raise.new.self))) (sym (no_pieces c.args.kept.now.of.items c.args.process le)) (none_kept (entries (view_of_acks c.raise.new.self)))
