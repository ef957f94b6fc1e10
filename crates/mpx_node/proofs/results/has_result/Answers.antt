use Rattle.std.proofs.Common.{◌≡◌, ◌&&◌, true, is_some, sym, ap, ◌∙◌}
use Rattle.mpx_group.specs.Group.{rank_in}
use Rattle.mpx_board.specs.Boards.{row_on}
use Rattle.mpx_board.specs.Looks.{look}
use Rattle.mpx_node.proofs.Calls.{result_there}
use Rattle.mpx_node.proofs.results.has_result.Goals as goal

pub returns-then-is_some : goal.returns-then-is_some
returns-then-is_some c =
    let board = look c.args.board.now in
    let birth = c.in-Some.birth.now in
    let member : is_some (rank_in c.args.me birth.members) ≡ true = ap is_some (sym c.rank_of.ensures) ∙ sym c.is_some.ensures ∙ c.if-is_some.true in
    c.has_row.ensures ∙ ap (λ there. there && is_some (row_on board c.args.name.now c.args.call)) (sym member) ∙ result_there _ board c.args.name.now c.args.me c.args.call birth c.in-Some.ensures
