use Rattle.std.proofs.Common.{◌≡◌, ◌∙◌, zero, ap, inr, map, refl, sym, subst, arith}
use Rattle.mpx_sim.specs.Shown.{frames_of, process_of, schedule_of}
use Rattle.mpx_sim.specs.SideBySide.{all_taken}
use Rattle.mpx_sim.specs.Running.{HaveCome}
use Rattle.mpx_sim.specs.Draws.{ScheduleView}
use Rattle.mpx_sim.specs.Turns.{Alone, Moment, drawn_again_for, those_left}
use Rattle.mpx_sim.proofs.Running.{next_moment, run_begins, run_same, run_turned}
use Rattle.mpx_sim.proofs.Sending.{again_for_loss}
use Rattle.mpx_sim.proofs.SideBySide.{coming_come, run_come, run_gone}
use Rattle.mpx_sim.proofs.turns.go_further.Goals as goal

pub returns-then-is_last-clause-run : goal.returns-then-is_last-clause-run
returns-then-is_last-clause-run g c script ranks size begun few run =
    let number = c.args.number in
    let t = schedule_of c.args.network.now.schedule in
    let old = map process_of c.args.processes.now in
    let frames = frames_of c.args.network.now in
    let next : Moment = next_moment _ script ranks size begun number t old frames run in
    record {
      next = next;
      turn_is = run_turned _ script ranks size begun number t old frames run (c.requires.came (inr (c.is_last.ensures.last c.if-is_last.true)));
      run = run_begins _ script ranks size begun number t old frames run;
      goes_on = λ more. absurd (omega (arith, more, c.is_last.ensures.last c.if-is_last.true));
    }

pub returns-clause-run : goal.returns-clause-run
returns-clause-run g c script ranks size begun few run =
    let old = map process_of c.args.processes.now in
    let before = c.args.network.now.frames.items in
    let number = c.args.number in
    let turn = c.from-turn.result in
    let t = schedule_of c.args.network.now.schedule in
    let fs = c.coming-coming.result.now in
    let some = c.coming-coming.ensures.some in
    let same : turn ≡ number = c.from-turn.ensures in
    let all = frames_of c.args.network.now in
    let now = all_taken zero turn fs old in
    let came = subst (λ n. HaveCome n all now) same (coming_come turn before fs old some (λ h. subst (λ n. HaveCome n all old) (sym same) (c.requires.came h))) in
    let come = run_come _ script ranks size begun number t all turn before fs refl some old run in
    let next : Moment = next_moment _ script ranks size begun number t now all come in
    let begins = run_begins _ script ranks size begun number t now all come in
    let gone = run_gone _ c.args.plan.now.ranks turn fs old (map process_of c.have_go_on.new.processes) c.in_ok-changed.ensures.goes script ranks size next next.frames few begins in
    record {
      next = next;
      turn_is = run_turned _ script ranks size begun number t now all come came;
      run = run_same _ script ranks size next Alone _ _ next.frames next.frames (sym c.hand_out.ensures.same) refl gone;
      goes_on = λ more. (
        ap (λ n. those_left n all t) (sym same) ∙ sym c.keep_some.ensures.frames,
        ap (λ n. drawn_again_for n all t) (sym same) ∙ sym c.keep_some.ensures.schedule,
      );
    }

pub returns-clause-loss : goal.returns-clause-loss
returns-clause-loss g c =
    ap (λ (s : ScheduleView). s.loss) c.keep_some.ensures.schedule ∙ again_for_loss c.from-turn.result (frames_of c.args.network.now) (schedule_of c.args.network.now.schedule)

pub returns-then-is_last-clause-ready : goal.returns-then-is_last-clause-ready
returns-then-is_last-clause-ready g c less = absurd (omega (arith, less, c.is_last.ensures.last c.if-is_last.true))

pub returns-clause-ready : goal.returns-clause-ready
returns-clause-ready g c less = c.hand_out.ensures.ready c.in_ok-changed.ensures.ready
