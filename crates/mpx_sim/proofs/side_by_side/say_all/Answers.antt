use Rattle.std.proofs.Common.{◌≡◌, ◌∙◌, ℕ, List, Some, get_or, length, sym, subst, arith}
use Rattle.std.specs.Prelude.{slice_get}
use Rattle.std.proofs.lemmas.Option.{same_Some, slice_get-get_or, slice_get_within}
use Rattle.mpx_post.proofs.Lists.{set_cases}
use Rattle.mpx_sim.specs.declared.process.Process.{Process}
use Rattle.mpx_sim.specs.SideBySide.{Makes}
use Rattle.mpx_sim.proofs.side_by_side.say_all.Goals as goal

among : {shifts : List ℕ} {n m turn : ℕ} {x y : Process} → Makes shifts n turn x y → n ≡ m → Makes shifts m turn x y
among {shifts = shifts} {turn = turn} {x = x} {y = y} made e = subst (λ k. Makes shifts k turn x y) e made

pub loop-place-init : goal.loop-place-init
loop-place-init c = record { done = λ q x y l a b. absurd (omega (arith, l)); rest = λ q y l e. e }

pub say-requires-clause-ready : goal.say-requires-clause-ready
say-requires-clause-ready c =
    let xs = c.loop-place.processes in
    let p = c.loop-place.place in
    let x = c.index-processes-place.result in
    c.requires.ready p (get_or xs p x) (c.loop-place.invariant.rest p (get_or xs p x) (omega arith) (slice_get-get_or xs p x (omega arith)))

pub loop-place-preserved : goal.loop-place-preserved
loop-place-preserved c =
    let xs = c.loop-place.processes in
    let p = c.loop-place.place in
    let x = c.index-processes-place.result in
    let new = c.say.new.self in
    let was = c.loop-place.invariant.rest p (get_or xs p x) (omega arith) (slice_get-get_or xs p x (omega arith)) in
    record {
      done = λ q u v l a b.
          set_cases xs p q new v (Makes c.args.schedule.now.shifts.items (length c.args.processes.now) c.args.turn u) b
          (λ here.
          let same : get_or xs p x ≡ u = same_Some (get_or xs p x) u (sym was ∙ subst (λ n. slice_get c.args.processes.now n ≡ Some u) here a) in
          subst (λ y. Makes c.args.schedule.now.shifts.items (length c.args.processes.now) c.args.turn y new) same (among c.in_ok-say.ensures (omega arith)))
          (λ old other. c.loop-place.invariant.done q u v (omega (arith, l, other)) a old);
      rest = λ q v l b. set_cases xs p q new v (λ y. slice_get c.args.processes.now q ≡ Some y) b (λ here. absurd (omega (arith, l, here))) (λ old other. c.loop-place.invariant.rest q v (omega (arith, l)) old);
    }

pub returns : goal.returns
returns c = (omega arith, λ place p q a b. c.loop-place.invariant.done place p q (omega (arith, slice_get_within c.loop-place.processes place q b, c.loop-place-test.false)) a b)
