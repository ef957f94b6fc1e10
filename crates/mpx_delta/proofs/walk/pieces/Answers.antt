-- The contexts, and then the acknowledgements.
use Rattle.std.proofs.Common.{ap, ◌∙◌, subst, [], List}
use Rattle.std.specs.Prelude.{All}
use Rattle.std.specs.List.{list_all}
use Rattle.std.specs.FinMap.{entries}
use Rattle.join_core.specs.laws.Cases.{first_true, second_true}
use Rattle.mpx_board.specs.Looks.{parts_of}
use Rattle.mpx_board.specs.declared.board.Board.{Board}
use Rattle.mpx_board.specs.Tidy.{are_tidy_acks, are_tidy_entries, is_tidy_acks, is_tidy_lifted}
use Rattle.mpx_delta.specs.Facts.{SaysLifted, SaysAcks, SaysParts}
use Rattle.mpx_delta.specs.Pieces.{AddsPieces}
use Rattle.mpx_delta.proofs.Adding.{adds_then}
use Rattle.mpx_delta.proofs.walk.pieces.Goals as goal

pub add_contexts-requires : goal.add_contexts-requires
add_contexts-requires c = record {
  rising = c.entries.ensures.rising;
  pass = ap (list_all (λ e. is_tidy_lifted e.1)) (c.entries.ensures.entries ∙ ap (λ v. entries v.0) c.pair-parts.ensures.value) ∙ first_true (are_tidy_entries (parts_of c.args.board.now).0) (are_tidy_acks (parts_of c.args.board.now).1) c.pair-parts.ensures.tidy;
}

pub add_acks-requires : goal.add_acks-requires
add_acks-requires c = record {
  rising = c.entries-2.ensures.rising;
  pass = ap (list_all (λ e. is_tidy_acks e.1)) (c.entries-2.ensures.entries ∙ ap (λ v. entries v.1) c.pair-parts.ensures.value) ∙ second_true (are_tidy_entries (parts_of c.args.board.now).0) (are_tidy_acks (parts_of c.args.board.now).1) c.pair-parts.ensures.tidy;
}

pub returns : goal.returns
returns c =
    let contexts : AddsPieces (λ P. All (SaysLifted P) (entries (parts_of c.args.board.now).0)) [] c.add_contexts.new.made.items =
    subst (λ (bs : List Board). AddsPieces (λ P. All (SaysLifted P) (entries (parts_of c.args.board.now).0)) bs c.add_contexts.new.made.items) c.new-made.ensures.items
    (subst (λ l. AddsPieces (λ P. All (SaysLifted P) l) c.new-made.result.items c.add_contexts.new.made.items) (c.entries.ensures.entries ∙ ap (λ v. entries v.0) c.pair-parts.ensures.value) c.in_ok-add_contexts.ensures) in
    let acks : AddsPieces (λ P. All (SaysAcks P) (entries (parts_of c.args.board.now).1)) c.add_contexts.new.made.items c.add_acks.new.made.items =
    subst (λ l. AddsPieces (λ P. All (SaysAcks P) l) c.add_contexts.new.made.items c.add_acks.new.made.items) (c.entries-2.ensures.entries ∙ ap (λ v. entries v.1) c.pair-parts.ensures.value) c.in_ok-add_acks.ensures in
    adds_then (λ P. All (SaysLifted P) (entries (parts_of c.args.board.now).0)) (λ P. All (SaysAcks P) (entries (parts_of c.args.board.now).1)) (λ P. SaysParts P (parts_of c.args.board.now)) [] c.add_contexts.new.made.items c.add_acks.new.made.items contexts acks
    (λ P x y. record { contexts = x; acks = y }) (λ P x. x.contexts) (λ P x. x.acks)
