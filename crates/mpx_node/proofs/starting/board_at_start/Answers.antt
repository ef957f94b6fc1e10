use Rattle.std.proofs.Common.{◌∙◌, []}
use Rattle.join_core.specs.Flat.{known}
use Rattle.mpx_birth.specs.Births.{BirthView, of_members, upto}
use Rattle.mpx_board.specs.Boards.{join, only, Born}
use Rattle.mpx_node.proofs.Stepping.{first_birth}
use Rattle.mpx_node.proofs.starting.board_at_start.Goals as goal

pub returns : goal.returns
returns c =
    let birth : BirthView = of_members (upto c.args.ranks) in
    c.in_ok-add_birth.ensures.ok ∙ (λ i. join (c.new-board.ensures i) (only (Born (c.world-world.ensures i) (known (c.in_ok-world.ensures i))))) ∙ first_birth [] birth
