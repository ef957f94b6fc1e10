use Rattle.std.proofs.Common.{◌≡◌, ℕ, ◌<◌, length, get_or, ap, sym, subst, ◌∙◌}
use Rattle.mpx_board.specs.Boards.{told}
use Rattle.mpx_board.specs.Looks.{look}
use Rattle.mpx_node.proofs.Calls.{none_made}
use Rattle.mpx_node.proofs.results.makes_none_on.Goals as goal

pub returns-in-Some : goal.returns-in-Some
returns-in-Some c made ops born =
    let first = c.index-members-0.result in
    let of = λ (p : ℕ). told (((look c.args.board.now).contexts c.args.name.now).posts c.args.call p) in
    let is : first ≡ get_or c.args.birth.now.members 0 first = c.index-members-0.is ∙ ap (λ ms. get_or ms 0 first) c.members.ensures.value in
    none_made ops (look c.args.board.now) c.args.name.now c.args.call c.args.birth.now c.in-Some.first.now
    (λ row begins. c.makes_none.ensures.none made ops c.args.birth.now row c.args.name.now c.args.call begins) first
    (subst (λ ms. 0 < length ms) c.members.ensures.value c.members.ensures.some) (ap of (sym is) ∙ sym c.in-Some.ensures) born
