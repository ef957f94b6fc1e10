use Rattle.std.proofs.Common.{refl, ap, ◌∙◌}
use Rattle.std.specs.Prelude.{is_some}
use Rattle.mpx_post.specs.Rows.{all_of}
use Rattle.mpx_board.specs.Boards.{told}
use Rattle.mpx_board.specs.Contexts.{look_of, post_in}
use Rattle.mpx_board.proofs.Live.{read_none}
use Rattle.mpx_board.proofs.Rows.{born, row_of, unborn}
use Rattle.mpx_board.proofs.board.Board.has_row.Goals as goal

pub returns-in_default : goal.returns-in_default
unfolding look_of
returns-in_default c = ap is_some (read_none (λ x. row_of x c.args.call) _ c.in_default.ensures)

pub returns-in-None : goal.returns-in-None
unfolding look_of
returns-in-None c = ap is_some (unborn _ _ c.args.call c.in-Some.ensures c.in-None.ensures)

pub returns-in-Some-known : goal.returns-in-Some-known
unfolding look_of
returns-in-Some-known c =
    c.have_posted.ensures
    ∙ ap is_some (ap (λ o. all_of (λ p. told (post_in p o)) c.members.result.now) c.get.ensures ∙ born _ _ c.args.call c.in-Some-known.birth.now c.members.result.now _ c.in-Some.ensures c.in-Some-known.ensures c.members.ensures.value refl)
