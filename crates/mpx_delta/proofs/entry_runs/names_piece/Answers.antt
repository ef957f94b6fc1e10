-- The board of what the process acknowledges of the contexts, where it is short.
use Rattle.std.proofs.Common.{◌∙◌}
use Rattle.mpx_board.specs.Views.{view_of_numbers}
use Rattle.mpx_delta.proofs.RunsSay.{names_tidy, names_piece, found}
use Rattle.mpx_delta.proofs.entry_runs.names_piece.Goals as goal

pub from_tidy-requires : goal.from_tidy-requires
from_tidy-requires c = names_tidy view_of_numbers c.args.names.now c.requires.run c.args.process _ c.in_ok-of_process.ensures c.requires.some _ (λ i. (c.new.ensures i, c.in_ok-one.ensures i))

pub returns : goal.returns
returns c = found c.short.result _ _ _ (λ b same fits. names_piece view_of_numbers c.args.names.now c.requires.run c.args.process _ c.in_ok-of_process.ensures c.requires.some b (same ∙ c.from_tidy.ensures ∙ λ i. (c.new.ensures i, c.in_ok-one.ensures i)) fits) c.short.ensures.same c.short.ensures.fits
