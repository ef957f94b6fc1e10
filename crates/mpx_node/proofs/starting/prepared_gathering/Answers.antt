use Rattle.std.proofs.Common.{◌≡◌, ◌∙◌, IfOk, ap, subst}
use Rattle.join_core.specs.Flat.{known}
use Rattle.mpx_birth.specs.Births.{BirthView, of_members}
use Rattle.mpx_board.specs.Boards.{join, only, Born}
use Rattle.mpx_board.specs.Contexts.{look_of}
use Rattle.mpx_board.specs.Looks.{look}
use Rattle.mpx_board.specs.Prepared.{IsReady}
use Rattle.mpx_node.proofs.Stepping.{first_birth}
use Rattle.mpx_node.proofs.starting.prepared_gathering.Goals as goal

pub returns-clause-same : goal.returns-clause-same
returns-clause-same c = ap look_of c.prepare.ensures.same

pub returns-clause-ready : goal.returns-clause-ready
returns-clause-ready c =
    let name = c.args.name.now in
    let birth : BirthView = of_members c.args.gathering.now.members in
    let part : look c.add_birth.new.self ≡ only (Born name (known birth)) = c.in_ok-add_birth.ensures.ok ∙ (λ i. join (c.new-part.ensures i) (only (Born name (known (c.in_ok-birth.ensures i))))) ∙ first_birth name birth in
    subst (λ l. IfOk c.prepare.result (λ prepared. IsReady prepared c.prepare.new.self (join (look c.args.board.now) l))) part c.prepare.ensures.ready
