-- A tidy board of the one context.
use Rattle.std.proofs.Common.{ap, ◌∙◌, [], ◌∷◌}
use Rattle.std.specs.FinMap.{from_sorted}
use Rattle.mpx_board.specs.Views.{view_of_lifted}
use Rattle.mpx_delta.proofs.Made.{tidy_is_some}
use Rattle.mpx_delta.proofs.pieces.about.Goals as goal

pub unwrap-requires : goal.unwrap-requires
unwrap-requires c = tidy_is_some c.of.result _ _ c.of.ensures (c.requires _ (λ i. ((c.in_ok-one.ensures ∙ ap (λ n. from_sorted ((n, view_of_lifted c.args.known) ∷ [])) c.in_ok-copy.ensures) i, c.new.ensures i)))
