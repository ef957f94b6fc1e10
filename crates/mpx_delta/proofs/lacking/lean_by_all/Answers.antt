use Rattle.std.proofs.Common.{ap, ◌∙◌}
use Rattle.std.proofs.lemmas.Result.{IfOk-weaker}
use Rattle.mpx_board.specs.Boards.{Look}
use Rattle.mpx_board.specs.Looks.{look}
use Rattle.mpx_delta.proofs.lacking.lean_by_all.Goals as goal

pub returns-in-Ok : goal.returns-in-Ok
returns-in-Ok c = IfOk-weaker c.lean_board.result _ _ (λ made is. is ∙ ap (λ (l : Look). record l { acks = (look c.args.said).acks }) c.in-Ok.ensures) c.lean_board.ensures
