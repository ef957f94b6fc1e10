use Rattle.std.proofs.Common.{rules, ◌≡◌, ◌∙◌, ◌<◌, ◌≤◌, ◌+◌, ◌∷◌, ◌++◌, [], Some, drop, take, length, map, set, suc, append_assoc, ap, refl, sym, arith}
use Rattle.std.specs.Prelude.{slice_get}
use Rattle.std.specs.Option.{option_map}
use Rattle.std.proofs.lemmas.List.{append-nil, drop_all, length-map, length-set, take_all}
use Rattle.std.proofs.lemmas.Option.{slice_get-get_or, slice_get-map}
use Rattle.mpx_format.specs.Decoding.{decoded}
use Rattle.mpx_post.proofs.Lists.{set_cases}
use Rattle.mpx_sim.specs.Shown.{frame_of, frames_of, part_of, schedule_of, shown}
use Rattle.mpx_sim.specs.Turns.{all_put_off, drawn_again_for}
use Rattle.mpx_sim.proofs.Left.{taken_set}
use Rattle.mpx_sim.proofs.Sending.{kept, one_left}
use Rattle.mpx_sim.proofs.network.delay_some.Goals as goal

pub loop-i-init : goal.loop-i-init
loop-i-init c = record { parts = refl; off = refl; rest = λ q x l at. at; schedule = refl; many = refl }

pub loop-i-preserved : goal.loop-i-preserved
loop-i-preserved c =
    let frames = c.loop-i.network.frames.items in
    let i = c.loop-i.i in
    let f = c.index_mut.result.now in
    let new = c.delay.new.frame in
    let within : i < length frames = search rules in
    let all = frames_of c.args.network.now in
    let here : slice_get frames i ≡ Some f = slice_get-get_or frames i f within ∙ ap (λ x. Some x) (sym c.index_mut.ensures.value) in
    let was = c.loop-i.invariant.rest i f (omega arith) here in
    let left = one_left all i (frame_of f) (slice_get-map frame_of c.args.network.now.frames.items i ∙ ap (option_map frame_of) was) in
    let turn = c.args.turn in
    let s = schedule_of c.loop-i.network.schedule in
    let rest = drop (i + 1) all in
    let next : i + 1 ≡ suc i = omega arith in
    let taken = ap (λ n. take n (map frame_of (set frames i new))) next ∙ taken_set frame_of frames i new within in
    let first : frame_of new ∷ all_put_off turn rest (schedule_of c.delay.new.schedule) ≡ all_put_off turn (frame_of f ∷ rest) s = λ k. c.delay.ensures.frame k ∷ all_put_off turn rest (c.delay.ensures.schedule k) in
    record {
      off = ap (λ fs. fs ++ all_put_off turn rest (schedule_of c.delay.new.schedule)) taken
          ∙ append_assoc (take i (map frame_of frames)) (frame_of new ∷ []) (all_put_off turn rest (schedule_of c.delay.new.schedule))
          ∙ ap (λ fs. take i (map frame_of frames) ++ fs) (first ∙ ap (λ fs. all_put_off turn fs s) (sym left))
          ∙ c.loop-i.invariant.off;
      parts = kept part_of frames i f new within (ap (λ bytes. shown (decoded bytes)) c.delay.ensures.bytes ∙ ap part_of c.index_mut.ensures.value) ∙ c.loop-i.invariant.parts;
      rest = λ q y less at. set_cases frames i q new y (λ z. slice_get c.args.network.now.frames.items q ≡ Some z) at (λ same. absurd (omega (arith, less, same))) (λ old other. c.loop-i.invariant.rest q y (omega (arith, less)) old);
      schedule = ap (drawn_again_for c.args.turn (drop (i + 1) all)) c.delay.ensures.schedule ∙ ap (λ fs. drawn_again_for c.args.turn fs (schedule_of c.loop-i.network.schedule)) (sym left) ∙ c.loop-i.invariant.schedule;
      many = length-set frames i new ∙ c.loop-i.invariant.many;
    }

pub returns-clause-frames : goal.returns-clause-frames
returns-clause-frames c =
    let all = frames_of c.args.network.now in
    let many : length (frames_of c.loop-i.network) ≤ c.loop-i.i = omega (arith, c.loop-i-test.false, c.loop-i.invariant.many, length-map c.loop-i.network.frames.items frame_of) in
    let none : drop c.loop-i.i all ≡ [] = drop_all c.loop-i.i all (omega (arith, c.loop-i-test.false, length-map c.args.network.now.frames.items frame_of)) in
    sym (take_all c.loop-i.i (frames_of c.loop-i.network) many) ∙ sym (append-nil (take c.loop-i.i (frames_of c.loop-i.network))) ∙ ap (λ fs. take c.loop-i.i (frames_of c.loop-i.network) ++ all_put_off c.args.turn fs (schedule_of c.loop-i.network.schedule)) (sym none) ∙ c.loop-i.invariant.off

pub returns-clause-schedule : goal.returns-clause-schedule
returns-clause-schedule c =
    let all = frames_of c.args.network.now in
    let none : drop c.loop-i.i all ≡ [] = drop_all c.loop-i.i all (omega (arith, c.loop-i-test.false, length-map c.args.network.now.frames.items frame_of)) in
    ap (λ fs. drawn_again_for c.args.turn fs (schedule_of c.loop-i.network.schedule)) (sym none) ∙ c.loop-i.invariant.schedule
