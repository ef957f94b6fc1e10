use Rattle.std.proofs.Common.{◌≡◌, length, sym, subst, arith}
use Rattle.join_nest.specs.Seen.{seen}
use Rattle.mpx_board.specs.Views.{view_of_numbers}
use Rattle.mpx_format.specs.Kept.{ArePieces}
use Rattle.mpx_format.proofs.Pieces.{none_kept}
use Rattle.mpx_decode.proofs.KeptRows.{changed_kept, put_kept}
use Rattle.mpx_decode.proofs.join_kept.raise_row.Goals.{then-len, else-len}
use Rattle.mpx_decode.proofs.join_kept.raise_row.Goals as goal

pub returns-in-Err-clause-kept : goal.returns-in-Err-clause-kept
returns-in-Err-clause-kept c = subst (λ ps. ArePieces ps (seen view_of_numbers c.raise_entry.new.entries.items)) (sym c.forget_all.ensures) (none_kept (seen view_of_numbers c.raise_entry.new.entries.items))

pub returns-after-len-clause-kept : goal.returns-after-len-clause-kept
returns-after-len-clause-kept c = elim c.if-len.branch [
  | then-len w ↦
      let same : length c.raise_entry.new.entries.items ≡ length c.args.entries.now.items = omega arith in
      rw w.kept-is (changed_kept view_of_numbers c.args.entries.now.items c.raise_entry.new.entries.items c.in-Ok.after c.in-Ok.ensures.changed c.args.kept.now.pieces.items w.forget.new.self.pieces.items c.requires.kept same w.forget.ensures)
  | else-len w ↦
      rw w.kept-is (put_kept view_of_numbers c.args.entries.now.items c.raise_entry.new.entries.items c.in-Ok.after c.in-Ok.ensures.changed c.args.kept.now.pieces.items w.forget_from.new.self.pieces.items c.requires.kept
      (λ same. w.if-len.false (omega (arith, same))) w.forget_from.ensures)
]
