use Rattle.std.proofs.Common.{◌++◌, map, ap, sym, ◌∙◌}
use Rattle.std.proofs.lemmas.List.{append-nil, map_push}
use Rattle.mpx_sim.specs.Shown.{frame_of, frames_of, schedule_of}
use Rattle.mpx_sim.proofs.Sending.{drawn_of, is_lost_out, is_out}
use Rattle.mpx_sim.proofs.network.send.Goals as goal

pub returns-clause-frames : goal.returns-clause-frames
returns-clause-frames g c =
    let s = schedule_of c.args.network.now.schedule in
    ap (map frame_of) c.in_ok-push.ensures.items ∙ map_push frame_of c.args.network.now.frames.items c.args.frame
    ∙ ap (λ fs. frames_of c.args.network.now ++ fs) (sym (is_out s (frame_of c.args.frame) (c.is_lost-lost.ensures.kept c.if-lost.false)))

pub returns-then-lost-clause-frames : goal.returns-then-lost-clause-frames
returns-then-lost-clause-frames g c =
    let s = schedule_of c.args.network.now.schedule in
    let old = frames_of c.args.network.now in
    sym (append-nil old) ∙ ap (λ fs. old ++ fs) (sym (is_lost_out s (frame_of c.args.frame) (c.is_lost-lost.ensures.lost c.if-lost.true)))

pub returns-clause-schedule : goal.returns-clause-schedule
returns-clause-schedule g c = drawn_of c.args.network.now.schedule c.is_lost-lost.new.self c.is_lost-lost.ensures.loss c.is_lost-lost.ensures.words c.is_lost-lost.ensures.shifts

pub returns-then-lost-clause-schedule : goal.returns-then-lost-clause-schedule
returns-then-lost-clause-schedule g c = drawn_of c.args.network.now.schedule c.is_lost-lost.new.self c.is_lost-lost.ensures.loss c.is_lost-lost.ensures.words c.is_lost-lost.ensures.shifts
