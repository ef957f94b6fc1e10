-- The board of what is said of the context beside its posts.
use Rattle.std.proofs.Common.{◌∙◌}
use Rattle.std.proofs.lemmas.Result.{IfOk-weaker}
use Rattle.mpx_board.specs.Looks.{parts_of}
use Rattle.mpx_board.specs.Views.{view_of_entry}
use Rattle.mpx_delta.specs.Facts.{SaysHead}
use Rattle.mpx_delta.proofs.Made.{head_of, context_tidy, head_tidy, context_says, says_context, head_says, says_head, is_piece}
use Rattle.mpx_delta.proofs.MadeSizes.{head_fits}
use Rattle.mpx_delta.proofs.pieces.head_piece.Goals as goal

pub about-requires : goal.about-requires
about-requires c = λ v is.
    let of = head_of c.args.name.now (view_of_entry c.args.entry.now) _ v is c.in_ok-copy.ensures c.in_ok-copy-2.ensures (c.new.ensures.dropped ∙ c.dropped.ensures) c.new.ensures.calls in
    context_tidy c.args.name.now _ v of.0 (head_tidy c.args.name.now _ _ of.1 c.requires.head c.requires.neat)

pub returns : goal.returns
returns c = IfOk-weaker c.about.result _ _ (λ b is.
    let of = head_of c.args.name.now (view_of_entry c.args.entry.now) _ (parts_of b) is c.in_ok-copy.ensures c.in_ok-copy-2.ensures (c.new.ensures.dropped ∙ c.dropped.ensures) c.new.ensures.calls in
    is_piece (λ P. SaysHead P c.args.name.now (view_of_entry c.args.entry.now)) b
    (λ P says. says_head c.args.name.now _ _ of.1 P (says_context c.args.name.now _ (parts_of b) of.0 P says))
    (λ P says. context_says c.args.name.now _ (parts_of b) of.0 P (head_says c.args.name.now _ _ of.1 P says))
    (head_fits (parts_of b) c.args.name.now _ _ of.0 of.1 c.short_name.ensures c.short_birth.ensures c.few_numbers.ensures))
    c.about.ensures
