use Rattle.std.proofs.Common.{◌≡◌, ◌<◌, ◌≤◌, ◌∙◌, ap, arith, length, sym, take}
use Rattle.std.specs.Prelude.{◌++◌, nat_lt}
use Rattle.std.specs.List.{filter}
use Rattle.std.proofs.lemmas.List.{append-nil, drop_all, length-map, take_all}
use Rattle.mpx_sim.specs.Shown.{frame_of, frames_of, schedule_of}
use Rattle.mpx_sim.specs.Turns.{FrameView}
use Rattle.mpx_sim.proofs.Left.{off_length}
use Rattle.mpx_sim.proofs.network.keep_some.Goals as goal

pub loop-init : goal.loop-init
loop-init c =
    let old = c.args.network.now in
    let mid = c.delay_some.new.network in
    let many : length mid.frames.items ≡ length old.frames.items = sym (length-map mid.frames.items frame_of) ∙ ap length c.delay_some.ensures.frames ∙ off_length c.args.turn (frames_of old) (schedule_of old.schedule) ∙ length-map old.frames.items frame_of in
    record {
      left = ap (filter (λ (f : FrameView). nat_lt c.args.turn f.turn)) c.delay_some.ensures.frames;
      near = omega (arith, many);
      schedule = c.delay_some.ensures.schedule;
    }

pub loop-preserved : goal.loop-preserved
loop-preserved c =
    let old = c.args.network.now in
    let mid = c.delay_some.new.network in
    let many : length mid.frames.items ≡ length old.frames.items = sym (length-map mid.frames.items frame_of) ∙ ap length c.delay_some.ensures.frames ∙ off_length c.args.turn (frames_of old) (schedule_of old.schedule) ∙ length-map old.frames.items frame_of in
    let within : c.loop.i < length c.loop.network.frames.items = omega (arith, c.loop.invariant.near, c.loop-test.true, many) in
    record {
      left = c.let_go-i.ensures.left within ∙ c.loop.invariant.left;
      near = omega (arith, c.let_go-i.ensures.nearer within, c.loop.invariant.near);
      schedule = ap schedule_of c.let_go-i.ensures.schedule ∙ c.loop.invariant.schedule;
    }

pub returns-clause-frames : goal.returns-clause-frames
returns-clause-frames c =
    let old = c.args.network.now in
    let mid = c.delay_some.new.network in
    let i = c.loop.i in
    let frames = frames_of c.loop.network in
    let many : length mid.frames.items ≡ length old.frames.items = sym (length-map mid.frames.items frame_of) ∙ ap length c.delay_some.ensures.frames ∙ off_length c.args.turn (frames_of old) (schedule_of old.schedule) ∙ length-map old.frames.items frame_of in
    let few : length frames ≤ i = omega (arith, c.loop.invariant.near, c.loop-test.false, many, length-map c.loop.network.frames.items frame_of) in
    sym (take_all i frames few) ∙ sym (append-nil (take i frames)) ∙ ap (λ fs. take i frames ++ filter (λ (f : FrameView). nat_lt c.args.turn f.turn) fs) (sym (drop_all i frames few)) ∙ c.loop.invariant.left
