-- The head, where there is one.
use Rattle.std.proofs.Common.{sym, ◌∙◌}
use Rattle.mpx_board.specs.Views.{view_of_entry}
use Rattle.mpx_delta.proofs.Adding.{adds_nothing, adds_piece, no_head}
use Rattle.mpx_delta.proofs.walk.add_head.Goals as goal

pub returns-then-not-has_head : goal.returns-then-not-has_head
returns-then-not-has_head c = adds_nothing _ _ (λ P. no_head P c.args.name.now (view_of_entry c.args.entry.now) (sym c.has_head.ensures ∙ c.if-not-has_head.true))

pub returns : goal.returns
returns c = rw c.in_ok-push.ensures.items (adds_piece _ _ _ c.in_ok-head_piece.ensures)
