-- The lean board borrows what all say.
use Rattle.std.proofs.Common.{subst, ap, ◌∙◌}
use Rattle.std.proofs.lemmas.Result.{IfOk-weaker}
use Rattle.mpx_board.specs.Contexts.{look_of}
use Rattle.mpx_delta.specs.Lacking.{AreFramesOf}
use Rattle.mpx_delta.proofs.framed.copied_frames.Goals as goal

pub returns-clause-board : goal.returns-clause-board
returns-clause-board c = c.swap_acks-2.ensures.mine ∙ λ i. ((c.swap_acks.ensures.mine i).0, (c.swap_acks.ensures.theirs i).1)

pub returns-clause-frames : goal.returns-clause-frames
returns-clause-frames c =
    let lean = ap look_of c.swap_acks.ensures.theirs ∙ c.in_ok-lean.ensures in
    IfOk-weaker c.frames_of-made.result _ _ (λ made. subst (λ b. AreFramesOf c.args.limit b made.items) lean) c.frames_of-made.ensures
