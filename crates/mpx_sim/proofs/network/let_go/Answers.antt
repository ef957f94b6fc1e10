use Rattle.std.proofs.Common.{◌≡◌, ◌+◌, ◌%◌, ◌≤◌, ◌<◌, ◌∙◌, ap, arith, get_or, map, subst, suc}
use Rattle.mpx_sim.specs.declared.frame_under_way.FrameUnderWay.{FrameUnderWay}
use Rattle.mpx_sim.specs.Shown.{frame_of, frames_of}
use Rattle.mpx_sim.specs.SideBySide.{left_from}
use Rattle.mpx_sim.proofs.Left.{left_gone, left_kept}
use Rattle.mpx_sim.proofs.network.let_go.Goals as goal

pub returns-then-comes-turn-clause-left : goal.returns-then-comes-turn-clause-left
returns-then-comes-turn-clause-left c few =
    let frames = c.args.network.now.frames.items in
    let i = c.args.i in
    let later = subst (λ (x : FrameUnderWay). c.args.turn < x.turn) c.index.ensures c.if-comes-turn.true in
    let next : (i + 1) % 18446744073709551616 ≡ suc i = omega (arith, c.if-i-len.false, c.len.type_inv) in
    ap (λ n. left_from c.args.turn n (frames_of c.args.network.now)) next ∙ left_kept c.args.turn frames i c.index.result.now few later

pub returns-clause-left : goal.returns-clause-left
returns-clause-left c few =
    let frames = c.args.network.now.frames.items in
    let here = c.index.result.now in
    let gone : (get_or frames c.args.i here).turn ≤ c.args.turn = subst (λ (x : FrameUnderWay). x.turn ≤ c.args.turn) c.index.ensures c.if-comes-turn.false in
    ap (λ fs. left_from c.args.turn c.args.i (map frame_of fs)) c.remove-frame.ensures.items ∙ left_gone c.args.turn frames c.args.i here few gone
