-- The board of what the processes acknowledge, where it is short.
use Rattle.std.proofs.Common.{◌∙◌}
use Rattle.mpx_board.specs.Views.{view_of_acks}
use Rattle.mpx_delta.proofs.RunsSay.{acks_tidy, acks_piece, found}
use Rattle.mpx_delta.proofs.entry_runs.acks_piece.Goals as goal

pub from_tidy-requires : goal.from_tidy-requires
from_tidy-requires c = acks_tidy view_of_acks c.args.processes.now c.requires _ (λ i. (c.new.ensures i, c.in_ok-copied.ensures i))

pub returns : goal.returns
returns c = found c.short.result _ _ _ (λ b same fits. acks_piece view_of_acks c.args.processes.now b c.requires (same ∙ c.from_tidy.ensures ∙ λ i. (c.new.ensures i, c.in_ok-copied.ensures i)) fits) c.short.ensures.same c.short.ensures.fits
