use Rattle.std.proofs.Common.{◌≡◌, ◌<◌, ◌∙◌, ◌⊎◌, Bool, false, inl, inr, length, map, true, refl, sym, ap, subst, arith}
use Rattle.std.specs.Prelude.{◌||◌}
use Rattle.std.proofs.lemmas.List.{length-map}
use Rattle.std.proofs.lemmas.List.Sorted.{IsPermutation-map}
use Rattle.mpx_sim.specs.Shown.{frame_of, frames_of, moment_of, process_of, schedule_of}
use Rattle.mpx_sim.specs.SideBySide.{to_send}
use Rattle.mpx_sim.specs.Turns.{Coming, IsListOf, drawn_for, joined}
use Rattle.mpx_sim.specs.Draws.{ScheduleView}
use Rattle.mpx_sim.specs.Running.{HaveCome, IsUnderWay}
use Rattle.mpx_sim.proofs.Results.{left_at}
use Rattle.mpx_sim.proofs.Running.{run_mixed, run_says, run_scheduled}
use Rattle.mpx_sim.proofs.Sending.{mixed_of, run_out, same_loss}
use Rattle.mpx_sim.proofs.SideBySide.{all_lists, ready_made, run_made}
use Rattle.mpx_sim.proofs.Tried.{on_each_ok}
use Rattle.mpx_sim.proofs.turns.exchange.Goals as goal

pub returns-clause-run : goal.returns-clause-run
returns-clause-run g c =
    on_each_ok c.deliver.result (λ delivers ops script ranks size from senders few one run.
    let turn = c.from-turn.result in
    let begun = moment_of from c.args.network.now senders in
    let shifts = c.args.network.now.schedule.shifts.items in
    let before = frames_of c.args.network.now in
    let old = map process_of c.args.processes.now in
    let qs = c.say_all.new.processes in
    let said = map process_of qs in
    let count = length c.args.processes.now in
    let many : count ≡ size = sym (length-map c.args.processes.now process_of) ∙ run.count in
    let among : one.place < ranks = omega (arith, one.among, few) in
    let saying = run_says ops script ranks size begun old before run (left_at ops script ranks size begun old before run one.place among one.waits) in
    let made = run_made shifts count turn c.args.processes.now qs c.in_ok-say_all.ensures ops script ranks size begun before saying in
    let lists = map to_send qs in
    let out = run_out ops script ranks size begun turn said before made lists (length-map qs to_send ∙ sym (length-map qs process_of)) (λ p list e v at. let listed = all_lists shifts senders count turn c.args.processes.now qs c.in_ok-say_all.ensures run.senders p list e v at in (subst (λ n. IsListOf shifts n turn v.rank.me (senders p) v.node list) many listed.is_list, listed.sender_is)) in
    let mid = c.send_all.new.network in
    let drawn =
    ap (λ fs. drawn_for fs (drawn_for (joined lists) (schedule_of c.args.network.now.schedule))) (sym c.in_ok-send_all.ensures.frames)
    ∙ ap (drawn_for (frames_of mid)) (sym c.in_ok-send_all.ensures.schedule)
    ∙ mixed_of mid.schedule c.mix.new.self.schedule (frames_of mid) (length mid.frames.items) (sym (length-map mid.frames.items frame_of)) c.mix.ensures.loss c.mix.ensures.words c.mix.ensures.shifts in
    let sent = run_scheduled ops script ranks size begun turn _ (schedule_of c.mix.new.self.schedule) _ _ _ _ drawn (sym c.in_ok-send_all.ensures.same) (sym c.in_ok-send_all.ensures.frames) out in
    let all = map process_of c.send_all.new.processes in
    let mixed = run_mixed ops script ranks size begun turn (schedule_of c.mix.new.self.schedule) all (frames_of mid) sent (frames_of c.mix.new.self) (IsPermutation-map frame_of mid.frames.items c.mix.new.self.frames.items c.mix.ensures.frames) in
    subst (λ n. IsUnderWay ops script ranks size begun (Coming n (schedule_of c.mix.new.self.schedule)) (map process_of c.deliver.new.processes) (frames_of c.mix.new.self)) c.from-turn.ensures
    (delivers ops script ranks size begun _ mixed))
    c.deliver.ensures.run

is_true : (b : Bool) → (b ≡ false → ⊥) → b ≡ true
is_true true not = refl
is_true false not = absurd (not refl)

or_true : (a b : Bool) → (a ≡ true) ⊎ (b ≡ true) → (a || b) ≡ true
or_true true b h = refl
or_true false b (inl a) = cc a
or_true false b (inr is) = is

pub returns-clause-came : goal.returns-clause-came
returns-clause-came g c =
    on_each_ok c.deliver.result (λ came last.
    subst (λ n. HaveCome n (frames_of c.mix.new.self) (map process_of c.deliver.new.processes)) c.from-turn.ensures
    (came (or_true c.args.plan.now.in_order c.is_last.result (elim last [ inl order ↦ inl order | inr no_more ↦ inr (is_true c.is_last.result (λ not. omega (arith, no_more, c.is_last.ensures.further not))) ]))))
    c.deliver.ensures.came

pub returns-clause-loss : goal.returns-clause-loss
returns-clause-loss g c =
    let lists = joined (map to_send c.say_all.new.processes) in
    on_each_ok c.deliver.result (λ came. c.mix.ensures.loss ∙ ap (λ (s : ScheduleView). s.loss) c.in_ok-send_all.ensures.schedule ∙ same_loss lists (schedule_of c.args.network.now.schedule)) c.deliver.ensures.came

pub returns-clause-ready : goal.returns-clause-ready
returns-clause-ready g c =
    let made = ready_made c.args.network.now.schedule.shifts.items (length c.args.processes.now) c.from-turn.result c.args.processes.now c.say_all.new.processes c.in_ok-say_all.ensures in
    on_each_ok c.deliver.result (λ h. h (c.in_ok-send_all.ensures.ready made)) c.deliver.ensures.ready
