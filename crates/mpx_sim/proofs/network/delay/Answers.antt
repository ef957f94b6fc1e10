use Rattle.std.proofs.Common.{◌∙◌, ap, arith, refl, suc, sym}
use Rattle.mpx_sim.specs.Draws.{draw, drawn}
use Rattle.mpx_sim.specs.Shown.{frame_of, part_of, schedule_of}
use Rattle.mpx_sim.specs.Turns.{FrameView}
use Rattle.mpx_sim.proofs.Left.{again_some, asked_not, asked_now, off_again, off_gone, off_not, some_again}
use Rattle.mpx_sim.proofs.network.delay.Goals as goal

pub returns-then-frame-turn-clause-frame : goal.returns-then-frame-turn-clause-frame
returns-then-frame-turn-clause-frame c = sym (off_not c.args.turn (frame_of c.args.frame.now) (schedule_of c.args.schedule.now) c.if-frame-turn.true)

pub returns-then-frame-turn-clause-schedule : goal.returns-then-frame-turn-clause-schedule
returns-then-frame-turn-clause-schedule c = sym (asked_not c.args.turn (frame_of c.args.frame.now) (schedule_of c.args.schedule.now) c.if-frame-turn.true)

pub returns-in_default-clause-schedule : goal.returns-in_default-clause-schedule
returns-in_default-clause-schedule c = c.again.ensures.schedule ∙ sym (asked_now c.args.turn (frame_of c.args.frame.now) (schedule_of c.args.schedule.now) c.if-frame-turn.false)

pub returns-clause-schedule : goal.returns-clause-schedule
returns-clause-schedule c = c.again.ensures.schedule ∙ sym (asked_now c.args.turn (frame_of c.args.frame.now) (schedule_of c.args.schedule.now) c.if-frame-turn.false)

pub returns-in_default-clause-frame : goal.returns-in_default-clause-frame
returns-in_default-clause-frame c =
    let s = schedule_of c.args.schedule.now in
    let more = suc (draw 4 (drawn s.draws)) in
    sym (off_gone c.args.turn (frame_of c.args.frame.now) s c.if-frame-turn.false (λ comes. c.in_default.not-Some _ (c.again.ensures.again ∙ sym (again_some (draw 4 s.draws) more more comes refl))))

pub returns-clause-frame : goal.returns-clause-frame
returns-clause-frame c =
    let f = c.args.frame.now in
    let s = schedule_of c.args.schedule.now in
    let is = some_again (draw 4 s.draws) (suc (draw 4 (drawn s.draws))) c.in-Some.later c.again.result c.again.ensures.again c.in-Some.is in
    ap (λ m. let g : FrameView = record { from = f.from; to = f.to; turn = m; part = part_of f } in g) (omega (arith, is.1)) ∙ sym (off_again c.args.turn (frame_of f) s c.if-frame-turn.false is.0)
