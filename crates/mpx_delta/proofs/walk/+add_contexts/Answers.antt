-- The run whole, or the pieces of its one context, or of both halves.
use Rattle.std.proofs.Common.{rules, ◌/◌, length, refl}
use Rattle.std.proofs.lemmas.Result.{on_ok_weaker}
use Rattle.mpx_board.specs.Tidy.{is_tidy_lifted}
use Rattle.mpx_board.specs.Views.{view_of_lifted}
use Rattle.mpx_name.specs.Order.{name_cmp}
use Rattle.mpx_digest.proofs.Steps.{passes_at}
use Rattle.mpx_delta.specs.Facts.{SaysLifted}
use Rattle.mpx_delta.proofs.Adding.{adds_piece, some_at}
use Rattle.mpx_delta.proofs.Halves.{adds_halves, adds_one, adds_none, low_run, high_run}
use Rattle.mpx_delta.proofs.walk.+add_contexts.Goals as goal

pub returns-then-is_empty : goal.returns-then-is_empty
returns-then-is_empty t c = adds_none view_of_lifted (λ P. SaysLifted P) c.args.contexts.now c.args.made.now.items (search (rules, c.is_empty.ensures, c.if-is_empty.true))

pub returns-in-Some : goal.returns-in-Some
returns-in-Some t c = rw c.in_ok-push.ensures.items (adds_piece _ _ _ (some_at c.in_ok-piece.field-0 c.in-Some.piece _ c.in_ok-piece.ensures c.in-Some.is))

pub add_context-requires : goal.add_context-requires
add_context-requires t c = passes_at view_of_lifted (λ x. is_tidy_lifted x.1) c.args.contexts.now _ 0 c.index-contexts-0.result (search rules) c.index-contexts-0.is refl c.requires.pass

pub returns-then-contexts-eq1 : goal.returns-then-contexts-eq1
returns-then-contexts-eq1 t c = on_ok_weaker c.add_context.result (adds_one view_of_lifted (λ P. SaysLifted P) c.args.contexts.now c.index-contexts-0.result c.args.made.now.items _ c.if-contexts-eq1.true c.index-contexts-0.is) c.add_context.ensures

pub add_contexts-requires : goal.add_contexts-requires
add_contexts-requires t c = (search rules, low_run name_cmp view_of_lifted (λ e. is_tidy_lifted e.1) c.args.contexts.now (length c.args.contexts.now / 2) c.requires)

pub add_contexts-requires-2 : goal.add_contexts-requires-2
add_contexts-requires-2 t c = (search rules, high_run name_cmp view_of_lifted (λ e. is_tidy_lifted e.1) c.args.contexts.now (length c.args.contexts.now / 2) c.requires)

pub returns : goal.returns
returns t c = on_ok_weaker c.add_contexts-2.result (adds_halves view_of_lifted (λ P. SaysLifted P) c.args.contexts.now (length c.args.contexts.now / 2) c.args.made.now.items _ _ c.in_ok-add_contexts.ensures) c.add_contexts-2.ensures
