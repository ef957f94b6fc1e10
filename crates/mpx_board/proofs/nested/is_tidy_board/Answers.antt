-- The code tests each entry of a context, and then what each process says that it has.
use Rattle.std.proofs.Common.{ap, ◌∙◌}
use Rattle.std.specs.List.{list_all}
use Rattle.mpx_board.specs.Tidy.{is_tidy_lifted, is_tidy_acks}
use Rattle.mpx_board.proofs.Tests.{second_left, first_fails}
use Rattle.mpx_board.proofs.nested.is_tidy_board.Goals as goal

pub returns-then-all_tidy : goal.returns-then-all_tidy
returns-then-all_tidy c = second_left _ _ _ _ c.if-all_tidy.true
    (c.all_tidy.ensures ∙ ap (list_all (λ e. is_tidy_lifted e.1)) c.entries.ensures.entries)
    (c.all_tidy-then-all_tidy.ensures ∙ ap (list_all (λ e. is_tidy_acks e.1)) c.entries-then-all_tidy.ensures.entries)

pub returns-else-all_tidy : goal.returns-else-all_tidy
returns-else-all_tidy c = first_fails _ _ _ c.if-all_tidy.false (c.all_tidy.ensures ∙ ap (list_all (λ e. is_tidy_lifted e.1)) c.entries.ensures.entries)
