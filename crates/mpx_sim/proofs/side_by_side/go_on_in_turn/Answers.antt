use Rattle.std.proofs.Common.{◌≡◌, ◌∙◌, List, Some, false, ap, get_or, map, refl, sym, subst, arith}
use Rattle.std.specs.Prelude.{slice_get}
use Rattle.std.proofs.lemmas.List.{length-map}
use Rattle.std.proofs.lemmas.Option.{same_Some, slice_get-get_or, slice_get_within}
use Rattle.mpx_num.specs.Own.{operation_of}
use Rattle.mpx_num.specs.declared.own.Operation.{Operation}
use Rattle.mpx_post.proofs.Lists.{set_cases}
use Rattle.mpx_system.proofs.Results.{mapped_at, some_at}
use Rattle.mpx_sim.specs.declared.process.Process.{Process}
use Rattle.mpx_sim.specs.Shown.{process_of}
use Rattle.mpx_sim.specs.SideBySide.{GoesOn, IsReady, taken}
use Rattle.mpx_sim.proofs.Running.{all_at}
use Rattle.mpx_sim.proofs.SideBySide.{goes_same}
use Rattle.mpx_sim.proofs.side_by_side.go_on_in_turn.Goals as goal

pub loop-place-init : goal.loop-place-init
loop-place-init g c = record { done = λ q x y l a b sound. absurd (omega (arith, l)); rest = λ q y l e. e }

pub take_and_go_on-requires : goal.take_and_go_on-requires
take_and_go_on-requires g c =
    let xs = c.loop-place.processes in
    let p = c.loop-place.place in
    let x = c.index-processes-place.result in
    c.requires p (get_or xs p x) (c.loop-place.invariant.rest p (get_or xs p x) (omega arith) (slice_get-get_or xs p x (omega arith)))

pub loop-place-preserved : goal.loop-place-preserved
loop-place-preserved g c =
    let xs = c.loop-place.processes in
    let p = c.loop-place.place in
    let x = c.index-processes-place.result in
    let new = c.take_and_go_on.new.self in
    let ops : List Operation = map (λ b. let o = goal.OwnOp-dyn g (b.vtable, b.value) in operation_of (o.word_bytes b.value) (o.fits_type b.value) (o.combination b.value)) c.args.ops.now.list.items in
    let was = c.loop-place.invariant.rest p (get_or xs p x) (omega arith) (slice_get-get_or xs p x (omega arith)) in
    record {
      done = λ q u v l a b.
          set_cases xs p q new v (λ y. y.notes.failed ≡ false → GoesOn ops c.args.turn.now.ranks q (taken q c.args.turn.now.number c.args.turn.now.frames.now (process_of u)) (process_of y) × IsReady y) b
          (λ here sound.
          let same : get_or xs p x ≡ u = same_Some (get_or xs p x) u (sym was ∙ subst (λ n. slice_get c.args.processes.now n ≡ Some u) here a) in
          let goes = c.take_and_go_on.ensures sound in (
            subst (λ n. GoesOn ops c.args.turn.now.ranks n (taken n c.args.turn.now.number c.args.turn.now.frames.now (process_of u)) (process_of new)) (sym here)
                (goes_same ops c.args.turn.now.ranks p (taken p c.args.turn.now.number c.args.turn.now.frames.now (process_of u)) (taken p c.args.turn.now.number c.args.turn.now.frames.now (process_of (get_or xs p x))) (process_of new) (process_of new) (ap (λ y. taken p c.args.turn.now.number c.args.turn.now.frames.now (process_of y)) same) refl goes.0),
            goes.1,
          ))
          (λ old other. c.loop-place.invariant.done q u v (omega (arith, l, other)) a old);
      rest = λ q v l b. set_cases xs p q new v (λ y. slice_get c.args.processes.now q ≡ Some y) b (λ here. absurd (omega (arith, l, here))) (λ old other. c.loop-place.invariant.rest q v (omega (arith, l)) old);
    }

pub returns-clause-goes : goal.returns-clause-goes
returns-clause-goes g c =
    let old = c.args.processes.now in
    let new = c.loop-place.processes in (
      length-map new process_of ∙ c.loop-place.auto.processes ∙ sym (length-map old process_of),
      λ place v w a b.
          let p = mapped_at process_of old place v a in
          let q = mapped_at process_of new place w b in
          let sound : q.0.notes.failed ≡ false = all_at (λ (x : Process). x.notes.failed ≡ false) new place q.0 q.1 c.in_ok-none_failed.ensures in
          goes_same _ c.args.turn.now.ranks place (taken place c.args.turn.now.number c.args.turn.now.frames.now v) (taken place c.args.turn.now.number c.args.turn.now.frames.now (process_of p.0)) w (process_of q.0)
          (ap (taken place c.args.turn.now.number c.args.turn.now.frames.now) p.2) q.2 (c.loop-place.invariant.done place p.0 q.0 (omega (arith, slice_get_within new place q.0 q.1, c.loop-place-test.false)) p.1 q.1 sound).0,
    )

pub returns-clause-ready : goal.returns-clause-ready
returns-clause-ready g c place q at =
    let old = c.args.processes.now in
    let new = c.loop-place.processes in
    let before = some_at old place (omega (arith, slice_get_within new place q at, c.loop-place.auto.processes)) in
    let sound : q.notes.failed ≡ false = all_at (λ (x : Process). x.notes.failed ≡ false) new place q at c.in_ok-none_failed.ensures in
    (c.loop-place.invariant.done place before.0 q (omega (arith, slice_get_within new place q at, c.loop-place-test.false)) before.1 at sound).1
