-- The board of the one process's numbers of the context.
use Rattle.std.proofs.Common.{ap, ◌∙◌, [], ◌∷◌}
use Rattle.std.specs.FinMap.{from_sorted}
use Rattle.mpx_board.specs.Looks.{parts_of}
use Rattle.mpx_board.specs.Views.{view_of_numbers}
use Rattle.mpx_delta.specs.Facts.{SaysNumbers}
use Rattle.mpx_delta.proofs.Made.{is_numbers, numbers_tidy, numbers_say, say_numbers, is_piece, tidy_is_some, made_is}
use Rattle.mpx_delta.proofs.MadeSizes.{numbers_fit}
use Rattle.mpx_delta.proofs.pieces.number_piece.Goals as goal

pub unwrap-requires : goal.unwrap-requires
unwrap-requires c =
    let of = is_numbers c.args.process c.args.name.now (view_of_numbers c.args.numbers.now) _ _ _ (λ i. (c.new.ensures i, c.in_ok-one.ensures i)) (c.in_ok-of_process.ensures ∙ ap (λ n. from_sorted ((n, view_of_numbers c.in_ok-copy-2.field-0) ∷ [])) c.in_ok-copy.ensures) c.in_ok-copy-2.ensures in
    tidy_is_some c.of.result _ _ c.of.ensures (numbers_tidy c.args.process c.args.name.now _ _ of c.requires)

pub returns : goal.returns
returns c =
    let made = made_is c.of.result _ _ c.unwrap.result c.of.ensures c.unwrap.ensures in
    let of = is_numbers c.args.process c.args.name.now (view_of_numbers c.args.numbers.now) _ _ (parts_of c.unwrap.result) (made.1 ∙ (λ i. (c.new.ensures i, c.in_ok-one.ensures i))) (c.in_ok-of_process.ensures ∙ ap (λ n. from_sorted ((n, view_of_numbers c.in_ok-copy-2.field-0) ∷ [])) c.in_ok-copy.ensures) c.in_ok-copy-2.ensures in
    is_piece (λ P. SaysNumbers P c.args.process (c.args.name.now, view_of_numbers c.args.numbers.now)) c.unwrap.result
    (say_numbers c.args.process c.args.name.now _ (parts_of c.unwrap.result) of)
    (numbers_say c.args.process c.args.name.now _ (parts_of c.unwrap.result) of)
    (numbers_fit (parts_of c.unwrap.result) c.args.process c.args.name.now _ of c.short_name.ensures c.few_numbers.ensures)
