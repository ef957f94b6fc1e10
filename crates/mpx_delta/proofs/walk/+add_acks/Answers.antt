-- The run whole, or the pieces of its one context, or of both halves.
use Rattle.std.proofs.Common.{rules, ◌/◌, not, length, refl, ap, ◌∙◌, subst}
use Rattle.std.proofs.lemmas.Result.{on_ok_weaker}
use Rattle.std.specs.Prelude.{All}
use Rattle.std.specs.List.{list_all}
use Rattle.join_core.specs.laws.Cases.{second_true}
use Rattle.mpx_board.specs.Tidy.{is_bare, is_tidy_acks, is_tidy_numbers}
use Rattle.mpx_board.specs.Views.{view_of_acks}
use Rattle.std.specs.Ordering.{nat_cmp}
use Rattle.mpx_digest.proofs.Steps.{passes_at}
use Rattle.mpx_delta.specs.Facts.{SaysNumbers, SaysAcks}
use Rattle.mpx_delta.specs.Pieces.{AddsPieces}
use Rattle.mpx_delta.proofs.Adding.{adds_piece, some_at}
use Rattle.mpx_delta.proofs.Halves.{adds_halves, adds_one, adds_none, low_run, high_run}
use Rattle.mpx_delta.proofs.walk.+add_acks.Goals as goal

pub returns-then-is_empty : goal.returns-then-is_empty
returns-then-is_empty t c = adds_none view_of_acks (λ P. SaysAcks P) c.args.processes.now c.args.made.now.items (search (rules, c.is_empty.ensures, c.if-is_empty.true))

pub returns-in-Some : goal.returns-in-Some
returns-in-Some t c = rw c.in_ok-push.ensures.items (adds_piece _ _ _ (some_at c.in_ok-piece.field-0 c.in-Some.piece _ c.in_ok-piece.ensures c.in-Some.is))

pub add_names-requires : goal.add_names-requires
add_names-requires t c =
    let tidy = passes_at view_of_acks (λ x. is_tidy_acks x.1) c.args.processes.now _ 0 c.index-processes-0.result (search rules) c.index-processes-0.is refl c.requires.pass in
    record {
      rising = c.entries.ensures.rising;
      pass = ap (list_all (λ e. is_tidy_numbers e.1)) c.entries.ensures.entries ∙ second_true (not (is_bare (view_of_acks c.index-processes-0.result.1))) _ tidy;
    }

pub returns-then-processes-eq1 : goal.returns-then-processes-eq1
returns-then-processes-eq1 t c = on_ok_weaker c.add_names.result
    (λ adds. adds_one view_of_acks (λ P. SaysAcks P) c.args.processes.now c.index-processes-0.result c.args.made.now.items _ c.if-processes-eq1.true c.index-processes-0.is
    (subst (λ l. AddsPieces (λ P. All (SaysNumbers P c.index-processes-0.result.0) l) c.args.made.now.items c.add_names.new.made.items) c.entries.ensures.entries adds))
    c.add_names.ensures

pub add_acks-requires : goal.add_acks-requires
add_acks-requires t c = (search rules, low_run nat_cmp view_of_acks (λ e. is_tidy_acks e.1) c.args.processes.now (length c.args.processes.now / 2) c.requires)

pub add_acks-requires-2 : goal.add_acks-requires-2
add_acks-requires-2 t c = (search rules, high_run nat_cmp view_of_acks (λ e. is_tidy_acks e.1) c.args.processes.now (length c.args.processes.now / 2) c.requires)

pub returns : goal.returns
returns t c = on_ok_weaker c.add_acks-2.result (adds_halves view_of_acks (λ P. SaysAcks P) c.args.processes.now (length c.args.processes.now / 2) c.args.made.now.items _ _ c.in_ok-add_acks.ensures) c.add_acks-2.ensures
