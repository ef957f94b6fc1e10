-- The board of the contexts, where it is short.
use Rattle.std.proofs.Common.{◌∙◌}
use Rattle.mpx_board.specs.Views.{view_of_lifted}
use Rattle.mpx_delta.proofs.RunsSay.{contexts_tidy, contexts_piece, found}
use Rattle.mpx_delta.proofs.entry_runs.contexts_piece.Goals as goal

pub from_tidy-requires : goal.from_tidy-requires
from_tidy-requires c = contexts_tidy view_of_lifted c.args.contexts.now c.requires _ (λ i. (c.in_ok-copied.ensures i, c.new.ensures i))

pub returns : goal.returns
returns c = found c.short.result _ _ _ (λ b same fits. contexts_piece view_of_lifted c.args.contexts.now b c.requires (same ∙ c.from_tidy.ensures ∙ λ i. (c.in_ok-copied.ensures i, c.new.ensures i)) fits) c.short.ensures.same c.short.ensures.fits
