use Rattle.std.proofs.Common.{rules, ◌++◌, ◌∷◌, [], map, ap, refl, sym, ◌∙◌}
use Rattle.std.proofs.lemmas.List.{append-nil, map-id, map_push}
use Rattle.std.proofs.lemmas.Iterator.Adapters.{YieldsList-from_vec}
use Rattle.std.proofs.lemmas.Iterator.Consumers.{YieldsList-end}
use Rattle.mpx_sim.specs.Draws.{drawn_once}
use Rattle.mpx_sim.specs.Shown.{frame_of, frames_of, schedule_of}
use Rattle.mpx_sim.specs.Turns.{drawn_for, those_out}
use Rattle.mpx_sim.proofs.Sending.{drawn_append, then_out}
use Rattle.mpx_sim.proofs.network.send_each.Goals as goal

pub loop-frame-init : goal.loop-frame-init
loop-frame-init g c = record { frames = sym (append-nil (frames_of c.args.network.now)); schedule = refl }

pub loop-frame-preserved : goal.loop-frame-preserved
loop-frame-preserved g c =
    let s = schedule_of c.args.network.now.schedule in
    let before = map frame_of c.loop-frame.yielded in
    let f = frame_of c.in-Some.frame in
    let more = sym (map_push frame_of c.loop-frame.yielded c.in-Some.frame) in
    record {
      frames = then_out (frames_of c.args.network.now) (frames_of c.loop-frame.network) (frames_of c.send.new.network) s (schedule_of c.loop-frame.network.schedule) before (f ∷ []) c.loop-frame.invariant.frames c.loop-frame.invariant.schedule c.in_ok-send.ensures.frames
          ∙ ap (λ fs. frames_of c.args.network.now ++ those_out s fs) more;
      schedule = c.in_ok-send.ensures.schedule ∙ ap drawn_once c.loop-frame.invariant.schedule ∙ sym (drawn_append before (f ∷ []) s) ∙ ap (λ fs. drawn_for fs s) more;
    }

pub returns-clause-frames : goal.returns-clause-frames
returns-clause-frames g c =
    let end = YieldsList-end (YieldsList-from_vec c.args.made.items (search rules) (search rules)) c.loop-frame.yielded c.loop-frame.frame-iterator c.loop-frame.yielded_by c.next.result c.next.new.self c.in-None.is c.next.ensures.steps in
    c.loop-frame.invariant.frames ∙ ap (λ fs. frames_of c.args.network.now ++ those_out (schedule_of c.args.network.now.schedule) (map frame_of fs)) (sym (map-id c.loop-frame.yielded) ∙ end.0)

pub returns-clause-schedule : goal.returns-clause-schedule
returns-clause-schedule g c =
    let end = YieldsList-end (YieldsList-from_vec c.args.made.items (search rules) (search rules)) c.loop-frame.yielded c.loop-frame.frame-iterator c.loop-frame.yielded_by c.next.result c.next.new.self c.in-None.is c.next.ensures.steps in
    c.loop-frame.invariant.schedule ∙ ap (λ fs. drawn_for (map frame_of fs) (schedule_of c.args.network.now.schedule)) (sym (map-id c.loop-frame.yielded) ∙ end.0)
