use Rattle.std.proofs.Common.{◌≡◌, ℕ, ◌+◌, ◌≤◌, [], List, map, length, ap, sym, ◌∙◌, refl, inr, subst, arith}
use Rattle.std.proofs.lemmas.List.{length-map}
use Rattle.mpx_num.specs.declared.own.Operation.{Operation}
use Rattle.mpx_meaning.specs.Evaluation.{Script}
use Rattle.mpx_sim.specs.declared.process.Process.{Process}
use Rattle.mpx_sim.specs.Ends.{OneWaits, RestsBy}
use Rattle.mpx_sim.specs.Shown.{frame_of, frames_of, moment_of, process_of, schedule_of}
use Rattle.mpx_sim.specs.SideBySide.{AreReady}
use Rattle.mpx_system.specs.Systems.{start_system}
use Rattle.mpx_sim.specs.Draws.{ScheduleView, first_schedule}
use Rattle.mpx_sim.specs.Senders.{first_sender}
use Rattle.mpx_sim.specs.Turns.{Alone, AreTurns, Coming, Moment}
use Rattle.mpx_sim.specs.Running.{HaveCome, IsUnderWay, ProcessView}
use Rattle.mpx_sim.proofs.Running.{run_framed, run_same}
use Rattle.mpx_sim.proofs.Phases.{turns_more}
use Rattle.mpx_sim.proofs.Sending.{written_back}
use Rattle.mpx_sim.proofs.turns.simulate.Goals as goal

-- the turn begins there too
moved : (ops : List Operation) (script : Script) (ranks size : ℕ) (processes : List ProcessView) (begun there : Moment) → begun ≡ there → IsUnderWay ops script ranks size begun Alone processes begun.frames
    → IsUnderWay ops script ranks size there Alone processes there.frames
moved ops script ranks size processes begun there same run = subst (λ (m : Moment). IsUnderWay ops script ranks size m Alone processes m.frames) same run

pub first-requires-clause-count : goal.first-requires-clause-count
first-requires-clause-count g c =
    let xs = c.in_ok-processes.processes.items in
    let run = c.in_ok-processes.ensures.run [] (schedule_of c.in_ok-network.network.schedule) in
    let many : length xs ≡ c.args.script.now.ranks + c.args.options.now.relays = sym (length-map xs process_of) ∙ run.count in
    let lent : length c.deref_mut.result.now ≡ length xs = ap length c.deref_mut.ensures.value in
    omega (arith, many, lent, c.from.ensures, c.ranks.ensures.ranks)

pub loop-number-init : goal.loop-number-init
loop-number-init g c =
    let script = c.args.script.now in
    let size = script.ranks + c.args.options.now.relays in
    let xs = c.in_ok-processes.processes.items in
    let start = start_system _ script.statements script.ranks size in
    let network = c.in_ok-network.network in
    let few : c.from.result ≤ script.ranks = omega (arith, c.ranks.ensures.ranks, c.from.ensures) in
    let begins = moment_of start network (λ p. first_sender) in
    let none : [] ≡ frames_of network = ap (map frame_of) (sym c.in_ok-network.ensures.frames) in
    let started = run_framed _ script.statements script.ranks size start (schedule_of network.schedule) (λ p. first_sender) (map process_of xs) [] (frames_of network) none (c.in_ok-processes.ensures.run _ (schedule_of network.schedule)) in
    let before = run_same _ script.statements script.ranks size (begins) Alone (map process_of xs) (map process_of c.deref_mut.result.now) _ _ (ap (map process_of) (sym c.deref_mut.ensures.value)) refl started in
    let gone = c.in_ok-changed.ensures.run script.statements script.ranks size (begins) (frames_of network) few before in
    let lent : length c.deref_mut.result.now ≡ length xs = ap length c.deref_mut.ensures.value in
    let kept = c.first.auto.processes ∙ lent in
    let same = written_back c.in_ok-processes.processes.len xs c.first.new.processes kept (sym lent ∙ c.deref_mut.ensures.len) in
    let run = run_same _ script.statements script.ranks size (begins) Alone _ _ _ _ (ap (map process_of) (sym same)) refl gone in
    let first = c.in_ok-processes.ensures.run [] (schedule_of network.schedule) in
    let many : length xs ≡ size = sym (length-map xs process_of) ∙ first.count in
    let counted : c.len.result ≡ size = omega (arith, many, c.len.ensures, c.in_ok-processes.processes.ok.0) in
    let seeded : schedule_of network.schedule ≡ first_schedule size c.args.options.now.seed c.args.options.now.loss =
    (λ i. let s : ScheduleView = record { loss = c.in_ok-network.ensures.loss i; draws = c.in_ok-network.ensures.seed i; shifts = c.in_ok-network.ensures.shifts i } in s)
    ∙ ap (λ n. first_schedule n c.args.options.now.seed c.args.options.now.loss) counted in
    record {
      count = omega (arith, ap length same, kept, many);
      loss = c.in_ok-network.ensures.loss;
      ready = λ less. subst AreReady (sym same) (c.in_ok-changed.ensures.ready less);
      run = (begins, (λ i. let m : Moment = record { system = start; frames = none i; schedule = sym seeded i; senders = λ p. first_sender } in m), run, λ less. (refl, refl));
    }

pub returns-then-over-clause-run : goal.returns-then-over-clause-run
returns-then-over-clause-run g c =
    let script = c.args.script.now in
    let size = script.ranks + c.args.options.now.relays in
    let before = c.loop-number.invariant.run in
    let begun = before.0 in
    let lent = c.deref_mut-in-loop-number.ensures in
    let ran = c.in_ok-over.ensures.run script.statements script.ranks size begun begun.frames (run_same _ script.statements script.ranks size begun Alone _ _ _ _ (ap (map process_of) (sym lent.value)) refl before.2) in
    let same = written_back c.loop-number.processes.len c.loop-number.processes.items c.is_over.new.processes (c.is_over.auto.processes ∙ ap length lent.value) (sym (ap length lent.value) ∙ lent.len) in
    record { begun = begun; made = before.1; frames = begun.frames; run = run_same _ script.statements script.ranks size begun Alone _ _ _ _ (ap (map process_of) (sym same)) refl ran }

pub returns-then-over-clause-ended : goal.returns-then-over-clause-ended
returns-then-over-clause-ended g c =
    let lent = c.deref_mut-in-loop-number.ensures in
    let same = written_back c.loop-number.processes.len c.loop-number.processes.items c.is_over.new.processes (c.is_over.auto.processes ∙ ap length lent.value) (sym (ap length lent.value) ∙ lent.len) in
    let rest = c.in_ok-over.ensures.over c.if-over.true in
    inr (
      omega (arith, c.loop-number-test.true),
      subst (λ (ps : List Process). RestsBy c.args.options.now.loss c.args.script.now.ranks (map process_of ps)) (sym same)
          (subst (λ n. RestsBy c.args.options.now.loss n (map process_of c.is_over.new.processes)) (c.from.ensures ∙ c.ranks.ensures.ranks)
          (subst (λ n. RestsBy n c.from.result (map process_of c.is_over.new.processes)) c.loop-number.invariant.loss rest)),
    )

pub loop-number-preserved : goal.loop-number-preserved
loop-number-preserved g c =
    let script = c.args.script.now in
    let size = script.ranks + c.args.options.now.relays in
    let len = c.loop-number.processes.len in
    let few : c.from.result ≤ script.ranks = omega (arith, c.ranks.ensures.ranks, c.from.ensures) in
    let network = c.loop-number.network in
    let before = c.loop-number.invariant.run in
    let is = before.3 (omega (arith, c.loop-number-test.true)) in
    let senders = before.0.senders in
    let begun = moment_of before.0.system network senders in
    let here : before.0 ≡ begun = λ i. let m : Moment = record { system = before.0.system; frames = is.0 i; schedule = is.1 i; senders = senders } in m in
    let lent = c.deref_mut-in-loop-number.ensures in
    let stands = moved _ script.statements script.ranks size (map process_of c.loop-number.processes.items) before.0 begun here before.2 in
    let alone = c.in_ok-over.ensures.run script.statements script.ranks size begun begun.frames (run_same _ script.statements script.ranks size begun Alone _ _ _ _ (ap (map process_of) (sym lent.value)) refl stands) in
    let same = written_back len c.loop-number.processes.items c.is_over.new.processes (c.is_over.auto.processes ∙ ap length lent.value) (sym (ap length lent.value) ∙ lent.len) in
    let lent-2 = c.deref_mut-in-loop-number-2.ensures in
    let there = ap (map process_of) (sym same ∙ sym lent-2.value) in
    let one = subst (OneWaits c.from.result) there (c.in_ok-over.ensures.further c.if-over.false) in
    let came = c.in_ok-exchange.ensures.run _ script.statements script.ranks size before.0.system senders few one (run_same _ script.statements script.ranks size begun Alone _ _ _ _ there refl alone) in
    let same-2 = written_back len _ c.exchange.new.processes (c.exchange.auto.processes ∙ ap length lent-2.value) (sym (ap length lent-2.value) ∙ lent-2.len) in
    let lent-3 = c.deref_mut-in-loop-number-3.ensures in
    let come = run_same _ script.statements script.ranks size begun (Coming c.loop-number.number (schedule_of c.exchange.new.network.schedule)) _ _ _ _ (ap (map process_of) (sym same-2 ∙ sym lent-3.value)) refl came in
    let turned = c.in_ok-changed-2.ensures.run script.statements script.ranks size begun few come in
    let same-3 = written_back len _ c.go_further.new.processes (c.go_further.auto.processes ∙ ap length lent-3.value) (sym (ap length lent-3.value) ∙ lent-3.len) in
    let next = turned.next in
    let run = run_same _ script.statements script.ranks size next Alone _ _ _ _ (ap (map process_of) (sym same-3)) refl turned.run in
    let many = sym (length-map _ process_of) ∙ run.count in
    record {
      count = omega (arith, many);
      loss = c.in_ok-changed-2.ensures.loss ∙ c.in_ok-exchange.ensures.loss ∙ c.loop-number.invariant.loss;
      ready = λ less. subst AreReady (sym same-3) (c.in_ok-changed-2.ensures.ready (omega (arith, less)));
      run = (next, turns_more c.loop-number.number script.ranks size _ begun next (subst (AreTurns c.loop-number.number script.ranks size _) here before.1) turned.turn_is, run, λ less. turned.goes_on (omega (arith, less)));
    }

pub exchange-requires : goal.exchange-requires
exchange-requires g c =
    let lent = c.deref_mut-in-loop-number.ensures in
    let before = c.in_ok-over.ensures.ready (subst AreReady (sym lent.value) (c.loop-number.invariant.ready (omega (arith, c.loop-number-test.true)))) in
    let same = written_back c.loop-number.processes.len c.loop-number.processes.items c.is_over.new.processes (c.is_over.auto.processes ∙ ap length lent.value) (sym (ap length lent.value) ∙ lent.len) in
    subst AreReady (sym same ∙ sym c.deref_mut-in-loop-number-2.ensures.value) before

pub first-requires-clause-ready : goal.first-requires-clause-ready
first-requires-clause-ready g c = subst AreReady (sym c.deref_mut.ensures.value) c.in_ok-processes.ensures.ready

pub go_further-requires-clause-ready : goal.go_further-requires-clause-ready
go_further-requires-clause-ready g c =
    let len = c.loop-number.processes.len in
    let lent-2 = c.deref_mut-in-loop-number-2.ensures in
    let lent-3 = c.deref_mut-in-loop-number-3.ensures in
    let same-2 = written_back len _ c.exchange.new.processes (c.exchange.auto.processes ∙ ap length lent-2.value) (sym (ap length lent-2.value) ∙ lent-2.len) in
    subst AreReady (sym same-2 ∙ sym lent-3.value) c.in_ok-exchange.ensures.ready

pub go_further-requires-clause-came : goal.go_further-requires-clause-came
go_further-requires-clause-came g c last =
    let len = c.loop-number.processes.len in
    let lent-2 = c.deref_mut-in-loop-number-2.ensures in
    let lent-3 = c.deref_mut-in-loop-number-3.ensures in
    let same-2 = written_back len _ c.exchange.new.processes (c.exchange.auto.processes ∙ ap length lent-2.value) (sym (ap length lent-2.value) ∙ lent-2.len) in
    subst (HaveCome c.loop-number.number (frames_of c.exchange.new.network)) (ap (map process_of) (sym same-2 ∙ sym lent-3.value)) (c.in_ok-exchange.ensures.came last)
