use Rattle.std.proofs.Common.{◌≡◌, ◌+◌, ◌-◌, ◌*◌, ◌/◌, ◌≤◌, ◌<◌, ◌++◌, length, min, take, drop, true, Some, sym, ap, subst, ◌∙◌, rules, arith}
use Rattle.std.specs.List.{flat_map, list_all}
use Rattle.std.proofs.lemmas.Bool.Decides.{Decides-eqb}
use Rattle.std.proofs.lemmas.Slice.Eq.{strip_prefix_is}
use Rattle.join_nest.specs.Seen.{seen}
use Rattle.mpx_name.specs.Order.{name_cmp, name_exact, name_total}
use Rattle.mpx_board.specs.Parts.{numbers_joining, numbers_laws}
use Rattle.mpx_board.specs.Views.{view_of_numbers}
use Rattle.mpx_format.specs.Fields.{name, numbers}
use Rattle.mpx_format.specs.Kept.{row_fits, row_spelled}
use Rattle.mpx_format.proofs.FieldLaws.{name_laws, numbers_laws as numbers_exactly}
use Rattle.mpx_format.proofs.FormatLaws.{both_laws}
use Rattle.mpx_decode.specs.Raising.{RaisesRows, row}
use Rattle.mpx_decode.proofs.KeptRows.{piece_at, piece_spelled, same_raised, shorter}
use Rattle.mpx_decode.proofs.join_kept.same_rows.Goals as goal

pub returns-clause-joined : goal.returns-clause-joined
returns-clause-joined c =
    let es = c.args.entries.now in
    let at = c.args.at in
    let known = c.in_ok-known.known.now in
    let after = c.in_ok-after.after.now in
    let look = rw c.deref.ensures.value at c.in_ok-piece.ensures.lookup in
    let is : known ≡ c.in_ok-piece.piece.now = search rules in
    let some : 0 < length known = omega arith in
    let lt : at < length es = omega arith in
    let here : 8 * (at / 8) ≡ at = omega arith in
    let bytes : c.args.bytes.now ≡ known ++ after = strip_prefix_is Decides-eqb c.args.bytes.now known (Some c.in_ok-after.after) c.in_ok-after.ensures.cases in
    let piece = piece_at (at / 8) c.args.kept.now.pieces.items (seen view_of_numbers es) known look.3.0 (is ∙ look.3.1 known) c.requires.kept in
    let told = piece_spelled known (take 8 (drop (8 * (at / 8)) (seen view_of_numbers es))) some piece in
    let n = c.min.result in
    let few : n ≡ min (length es - at) 8 = search rules in
    let rows : take 8 (drop (8 * (at / 8)) (seen view_of_numbers es)) ≡ take n (seen view_of_numbers (drop at es)) = ap (λ i. take 8 (drop i (seen view_of_numbers es))) here ∙ shorter view_of_numbers es at n (omega (arith, lt)) few in
    let le : at + n ≤ length es = omega (arith, lt, few) in
    let all : list_all row_fits (take n (seen view_of_numbers (drop at es))) ≡ true = sym (ap (list_all row_fits) rows) ∙ told.1 in
    let is_spelled : c.args.bytes.now ≡ flat_map row_spelled (take n (seen view_of_numbers (drop at es))) ++ after = bytes ∙ ap (λ l. l ++ after) (told.0 ∙ ap (flat_map row_spelled) rows) in
    subst (λ b. RaisesRows name_cmp view_of_numbers (row name numbers) numbers_joining n b after es es) (sym is_spelled)
    (same_raised name_total name_exact view_of_numbers name numbers numbers_laws (both_laws name_laws (λ a fits. numbers_exactly)).again es c.requires.rising n at after le all)
