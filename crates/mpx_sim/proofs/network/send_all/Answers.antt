use Rattle.std.proofs.Common.{◌≡◌, ◌<◌, ◌+◌, ◌∙◌, ◌++◌, [], Some, drop, get_or, length, map, refl, sym, ap, arith}
use Rattle.std.specs.Prelude.{slice_get}
use Rattle.std.specs.Option.{option_map}
use Rattle.std.proofs.lemmas.List.{append-nil, append_assoc, drop_all, length-map}
use Rattle.std.proofs.lemmas.Option.{slice_get-get_or, slice_get-map}
use Rattle.mpx_post.proofs.Lists.{set_cases}
use Rattle.mpx_sim.specs.Shown.{frames_of, process_of, schedule_of}
use Rattle.mpx_sim.specs.SideBySide.{to_send}
use Rattle.mpx_sim.specs.Turns.{drawn_for, joined, those_out}
use Rattle.mpx_sim.proofs.Sending.{drawn_append, kept, one_left, out_append}
use Rattle.mpx_sim.proofs.SideBySide.{ready_same, ready_set}
use Rattle.mpx_sim.proofs.network.send_all.Goals as goal

pub loop-p-init : goal.loop-p-init
loop-p-init g c = record { same = refl; ready = λ h. h; rest = λ q x l at. at; frames = refl; schedule = refl }

pub loop-p-preserved : goal.loop-p-preserved
loop-p-preserved g c =
    let xs = c.loop-p.processes in
    let p = c.loop-p.p in
    let x = c.index-processes-p.result in
    let new = c.send_from.new.process in
    let l : p < length xs = omega arith in
    let stays = kept process_of xs p x new l c.send_from.ensures.same in
    let lists = map to_send c.args.processes.now in
    let list = to_send (get_or xs p x) in
    let was = c.loop-p.invariant.rest p (get_or xs p x) (omega arith) (slice_get-get_or xs p x l) in
    let left = one_left lists p list (slice_get-map to_send c.args.processes.now p ∙ ap (option_map to_send) was) in
    let s = schedule_of c.loop-p.network.schedule in
    let t = schedule_of c.send_from.new.network.schedule in
    let rest = joined (drop (p + 1) lists) in
    let here : t ≡ drawn_for list s = c.in_ok-send_from.ensures.schedule in
    record {
      same = stays ∙ c.loop-p.invariant.same;
      ready = λ h. ready_set xs p new (c.loop-p.invariant.ready h) (ready_same (get_or xs p x) new c.send_from.ensures.same c.send_from.ensures.ahead c.send_from.ensures.last (c.loop-p.invariant.ready h p (get_or xs p x) (slice_get-get_or xs p x l)));
      rest = λ q y less at. set_cases xs p q new y (λ z. slice_get c.args.processes.now q ≡ Some z) at (λ same. absurd (omega (arith, less, same))) (λ old other. c.loop-p.invariant.rest q y (omega (arith, less)) old);
      frames = (λ i. c.in_ok-send_from.ensures.frames i ++ those_out (here i) rest)
          ∙ append_assoc (frames_of c.loop-p.network) (those_out s list) (those_out (drawn_for list s) rest)
          ∙ ap (λ fs. frames_of c.loop-p.network ++ fs) (sym (out_append s list rest) ∙ ap (λ ls. those_out s (joined ls)) (sym left))
          ∙ c.loop-p.invariant.frames;
      schedule = ap (drawn_for rest) here ∙ sym (drawn_append list rest s) ∙ ap (λ ls. drawn_for (joined ls) s) (sym left) ∙ c.loop-p.invariant.schedule;
    }

pub returns-clause-frames : goal.returns-clause-frames
returns-clause-frames g c =
    let lists = map to_send c.args.processes.now in
    let none : drop c.loop-p.p lists ≡ [] = drop_all c.loop-p.p lists (omega (arith, c.loop-p-test.false, length-map c.args.processes.now to_send)) in
    sym (append-nil (frames_of c.loop-p.network)) ∙ ap (λ ls. frames_of c.loop-p.network ++ those_out (schedule_of c.loop-p.network.schedule) (joined ls)) (sym none) ∙ c.loop-p.invariant.frames

pub returns-clause-schedule : goal.returns-clause-schedule
returns-clause-schedule g c =
    let lists = map to_send c.args.processes.now in
    let none : drop c.loop-p.p lists ≡ [] = drop_all c.loop-p.p lists (omega (arith, c.loop-p-test.false, length-map c.args.processes.now to_send)) in
    ap (λ ls. drawn_for (joined ls) (schedule_of c.loop-p.network.schedule)) (sym none) ∙ c.loop-p.invariant.schedule
