use Rattle.std.proofs.Common.{◌≡◌, ◌+◌, ◌∷◌, ◌++◌, [], ℕ, List, take, subst, sym}
use Rattle.std.proofs.lemmas.List.{take_all}
use Rattle.mpx_delta.specs.Lacking.{AreSpelled}
use Rattle.mpx_delta.proofs.Framing.{spelled_more}
use Rattle.mpx_delta.proofs.framed.all_frames.Goals as goal

pub loop-board-preserved : goal.loop-board-preserved
loop-board-preserved c =
    let made : List (List ℕ) = c.loop-board.made.items in
    let frame : List ℕ = c.in_ok-frame_of.field-0 in
    let new : List (List ℕ) = c.push.new.self.items in
    let pushed : new ≡ made ++ frame ∷ [] = c.in_ok-push.ensures.items in
    let more = spelled_more made c.args.boards.now c.loop-board.board-index frame c.board-item.result c.loop-board-test.true c.board-item.is c.in_ok-frame_of.ensures c.loop-board.invariant in
    subst {A = List (List ℕ)} (λ frames. AreSpelled frames (take (c.loop-board.board-index + 1) c.args.boards.now)) (sym {A = List (List ℕ)} pushed) more

pub returns : goal.returns
returns c = subst (AreSpelled c.loop-board.made.items) (take_all c.loop-board.board-index c.args.boards.now c.loop-board-test.false) c.loop-board.invariant
