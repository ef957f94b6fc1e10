use Rattle.std.proofs.Common.{ap, map, refl, ◌∙◌, arith}
use Rattle.std.specs.Prelude.{slice_get}
use Rattle.mpx_sim.specs.Ends.{Lacks}
use Rattle.mpx_sim.specs.Shown.{process_of}
use Rattle.mpx_sim.specs.SideBySide.{IsReady}
use Rattle.mpx_sim.specs.Turns.{Alone}
use Rattle.mpx_post.proofs.Lists.{written, element, set_cases}
use Rattle.mpx_sim.proofs.Running.{run_same}
use Rattle.mpx_sim.proofs.turns.all_lack.Goals as goal

pub loop-rank-init : goal.loop-rank-init
loop-rank-init g c = record { run = λ script ranks size begun frames run. run; lack = λ q v l at. absurd (omega (arith, l)); ready = λ h. h }

pub loop-rank-preserved : goal.loop-rank-preserved
loop-rank-preserved g c =
    let xs = c.loop-rank.processes in
    let p = c.loop-rank.rank in
    let new = process_of c.lacks.new.self in
    record {
      run = λ script ranks size begun frames run. run_same _ script ranks size begun Alone _ _ frames frames (written process_of xs p c.lacks.new.self) refl
          (c.in_ok-lacks.ensures.keeps script ranks size begun (map process_of xs) frames p (element process_of xs p c.index-processes-rank.result (omega arith)) (c.loop-rank.invariant.run script ranks size begun frames run));
      lack = λ q v l at.
          set_cases (map process_of xs) p q new v Lacks (ap (λ ys. slice_get ys q) (written process_of xs p c.lacks.new.self) ∙ at)
          (λ same. c.in_ok-lacks.ensures.lacks c.if-not-lacks.false)
          (λ old other. c.loop-rank.invariant.lack q v (omega (arith, l, other)) old);
      ready = λ h q x at. set_cases xs p q c.lacks.new.self x IsReady at (λ same. c.lacks.ensures.ready) (λ old other. c.loop-rank.invariant.ready h q x old);
    }

pub returns-then-not-lacks-clause-run : goal.returns-then-not-lacks-clause-run
returns-then-not-lacks-clause-run g c script ranks size begun frames run =
    let xs = c.loop-rank.processes in
    let p = c.loop-rank.rank in
    run_same _ script ranks size begun Alone _ _ frames frames (written process_of xs p c.lacks.new.self) refl
    (c.in_ok-lacks.ensures.keeps script ranks size begun (map process_of xs) frames p (element process_of xs p c.index-processes-rank.result (omega arith)) (c.loop-rank.invariant.run script ranks size begun frames run))

pub returns-clause-lack : goal.returns-clause-lack
returns-clause-lack g c e p v l at = c.loop-rank.invariant.lack p v (omega (arith, l, c.loop-rank-test.false)) at

pub returns-then-not-lacks-clause-ready : goal.returns-then-not-lacks-clause-ready
returns-then-not-lacks-clause-ready g c h q x at =
    set_cases c.loop-rank.processes c.loop-rank.rank q c.lacks.new.self x IsReady at (λ same. c.lacks.ensures.ready) (λ old other. c.loop-rank.invariant.ready h q x old)
