-- The code tests the numbers of each context.
use Rattle.std.proofs.Common.{ap, ◌∙◌}
use Rattle.std.specs.List.{list_all}
use Rattle.mpx_board.specs.Tidy.{is_tidy_numbers}
use Rattle.mpx_board.proofs.Shown.{where_some}
use Rattle.mpx_board.proofs.nested.DigestTidy.is_tidy.Goals as goal

pub returns-then-not-is_empty : goal.returns-then-not-is_empty
returns-then-not-is_empty c =
    where_some _ _ _ c.if-not-is_empty.ensures (c.all_tidy.ensures ∙ ap (list_all (λ e. is_tidy_numbers e.1)) c.entries.ensures.entries)
