use Rattle.std.proofs.Common.{◌≡◌, ◌∙◌, Some, ap, subst, sym, false, arith}
use Rattle.std.proofs.lemmas.Option.{slice_get-get_or, slice_get_within}
use Rattle.std.proofs.lemmas.List.{length-map}
use Rattle.mpx_system.proofs.Results.{mapped_at, some_at}
use Rattle.mpx_sim.specs.declared.process.Process.{Process}
use Rattle.mpx_sim.specs.Shown.{process_of}
use Rattle.mpx_sim.specs.SideBySide.{IsReady, taken}
use Rattle.mpx_sim.proofs.Running.{all_at}
use Rattle.mpx_sim.proofs.SideBySide.{changed_at, goes_same}
use Rattle.mpx_sim.proofs.side_by_side.go_on_all.Goals as goal

pub returns-clause-goes : goal.returns-clause-goes
returns-clause-goes g c =
    let old = c.args.processes.now in
    let new = c.for_each_share.new.places in (
      length-map new process_of ∙ c.for_each_share.auto.places ∙ sym (length-map old process_of),
      λ place v w a b.
          let p = mapped_at process_of old place v a in
          let q = mapped_at process_of new place w b in
          let k = changed_at _ _ old new c.for_each_share.ensures place p.0 q.0 p.1 q.1 in
          let sound : q.0.notes.failed ≡ false = all_at (λ (x : Process). x.notes.failed ≡ false) new place q.0 q.1 c.in_ok-none_failed.ensures in
          goes_same _ c.args.turn.now.ranks place (taken place c.args.turn.now.number c.args.turn.now.frames.now v) (taken place c.args.turn.now.number c.args.turn.now.frames.now (process_of k.argument.now)) w (process_of k.after_call.now)
          (ap (λ x. taken place c.args.turn.now.number c.args.turn.now.frames.now (process_of x)) k.argument_is ∙ ap (taken place c.args.turn.now.number c.args.turn.now.frames.now) p.2) (ap process_of k.left ∙ q.2) (k.call (ap (λ (x : Process). x.notes.failed) k.left ∙ sound)).0,
    )

pub returns-clause-ready : goal.returns-clause-ready
returns-clause-ready g c place q at =
    let old = c.args.processes.now in
    let new = c.for_each_share.new.places in
    let before = some_at old place (omega (arith, slice_get_within new place q at, c.for_each_share.auto.places)) in
    let k = changed_at _ _ old new c.for_each_share.ensures place before.0 q before.1 at in
    let sound : q.notes.failed ≡ false = all_at (λ (x : Process). x.notes.failed ≡ false) new place q at c.in_ok-none_failed.ensures in
    subst IsReady k.left (k.call (ap (λ (x : Process). x.notes.failed) k.left ∙ sound)).1

pub for_each_share-requires-clause-accepts : goal.for_each_share-requires-clause-accepts
for_each_share-requires-clause-accepts g c κs within i p l is = c.requires i p.now (slice_get-get_or c.args.processes.now i p.now l ∙ ap Some (sym is))
