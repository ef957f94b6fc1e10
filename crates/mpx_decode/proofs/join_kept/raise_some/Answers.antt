use Rattle.std.proofs.Common.{◌++◌, arith, subst}
use Rattle.mpx_name.specs.Order.{name_cmp}
use Rattle.mpx_board.specs.Parts.{numbers_joining}
use Rattle.mpx_board.specs.Views.{view_of_numbers}
use Rattle.mpx_format.specs.Fields.{name, numbers}
use Rattle.mpx_format.proofs.FieldLaws.{name_laws, numbers_laws}
use Rattle.mpx_format.proofs.FormatLaws.{both_laws}
use Rattle.mpx_decode.specs.Raising.{RaisesRows, row}
use Rattle.mpx_decode.proofs.NearBytes.{rows_on}
use Rattle.mpx_decode.proofs.join_kept.raise_some.Goals as goal

pub returns-then-same-most-clause-ok : goal.returns-then-same-most-clause-ok
returns-then-same-most-clause-ok c =
    let more = c.args.beyond.now in
    subst (λ es. RaisesRows name_cmp view_of_numbers (row name numbers) numbers_joining c.in-Some.same (c.args.bytes.now ++ more) (c.in-Some.after.now ++ more) es es) c.as_slice.ensures.value
    (rows_on name_cmp view_of_numbers (both_laws name_laws (λ a fits. numbers_laws)) numbers_joining c.in-Some.same c.args.bytes.now c.in-Some.after.now more c.as_slice.result.now c.as_slice.result.now (λ i. omega (arith, c.type_inv.bytes i)) c.in-Some.ensures.joined)
