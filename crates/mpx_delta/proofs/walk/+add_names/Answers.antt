-- The run whole, or the pieces of its one context, or of both halves.
use Rattle.std.proofs.Common.{rules, ◌/◌, length, refl}
use Rattle.std.proofs.lemmas.Result.{on_ok_weaker}
use Rattle.mpx_board.specs.Tidy.{is_tidy_numbers}
use Rattle.mpx_board.specs.Views.{view_of_numbers}
use Rattle.mpx_name.specs.Order.{name_cmp}
use Rattle.mpx_digest.proofs.Steps.{passes_at}
use Rattle.mpx_delta.specs.Facts.{SaysNumbers}
use Rattle.mpx_delta.proofs.Adding.{adds_piece, some_at}
use Rattle.mpx_delta.proofs.Halves.{adds_halves, adds_one, adds_none, low_run, high_run}
use Rattle.mpx_delta.proofs.walk.+add_names.Goals as goal

pub returns-then-is_empty : goal.returns-then-is_empty
returns-then-is_empty t c = adds_none view_of_numbers (λ P. SaysNumbers P c.args.process) c.args.names.now c.args.made.now.items (search (rules, c.is_empty.ensures, c.if-is_empty.true))

pub returns-in-Some : goal.returns-in-Some
returns-in-Some t c = rw c.in_ok-push-2.ensures.items (adds_piece _ _ _ (some_at c.in_ok-piece.field-0 c.in-Some.piece _ c.in_ok-piece.ensures c.in-Some.is))

pub number_piece-requires : goal.number_piece-requires
number_piece-requires t c = passes_at view_of_numbers (λ x. is_tidy_numbers x.1) c.args.names.now _ 0 c.index-names-0.result (search rules) c.index-names-0.is refl c.requires.pass

pub returns-then-names-eq1 : goal.returns-then-names-eq1
returns-then-names-eq1 t c = rw c.in_ok-push.ensures.items (adds_one view_of_numbers (λ P. SaysNumbers P c.args.process) c.args.names.now c.index-names-0.result c.args.made.now.items _ c.if-names-eq1.true c.index-names-0.is (adds_piece _ _ _ c.in_ok-number_piece.ensures))

pub add_names-requires : goal.add_names-requires
add_names-requires t c = (search rules, low_run name_cmp view_of_numbers (λ e. is_tidy_numbers e.1) c.args.names.now (length c.args.names.now / 2) c.requires)

pub add_names-requires-2 : goal.add_names-requires-2
add_names-requires-2 t c = (search rules, high_run name_cmp view_of_numbers (λ e. is_tidy_numbers e.1) c.args.names.now (length c.args.names.now / 2) c.requires)

pub returns : goal.returns
returns t c = on_ok_weaker c.add_names-2.result (adds_halves view_of_numbers (λ P. SaysNumbers P c.args.process) c.args.names.now (length c.args.names.now / 2) c.args.made.now.items _ _ c.in_ok-add_names.ensures) c.add_names-2.ensures
