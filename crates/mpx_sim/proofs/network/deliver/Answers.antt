use Rattle.std.proofs.Common.{◌≡◌, get_or, inl, inr, map, sym, ap, ◌∙◌, Some, subst, arith}
use Rattle.std.specs.Prelude.{slice_get}
use Rattle.std.proofs.lemmas.Bool.{cases_eq}
use Rattle.std.proofs.lemmas.List.{length-map}
use Rattle.std.proofs.lemmas.Option.{same_Some, slice_get-get_or}
use Rattle.mpx_post.proofs.Lists.{element}
use Rattle.mpx_sim.specs.Running.{HasCome}
use Rattle.mpx_sim.specs.Shown.{frame_of, frames_of, process_of}
use Rattle.mpx_sim.proofs.SideBySide.{come_later}
use Rattle.mpx_sim.proofs.network.deliver.Goals as goal

pub loop-i-init : goal.loop-i-init
loop-i-init g c = record { run = λ ops script ranks size begun t run. run; ready = λ h. h; came = λ k f l at. absurd (omega (arith, l)) }

pub loop-i-preserved : goal.loop-i-preserved
loop-i-preserved g c =
    let frames = c.args.network.now.frames.items in
    let i = c.loop-i.i in
    let f = c.index.result.now in
    let at : slice_get (frames_of c.args.network.now) i ≡ Some (frame_of f) = element frame_of frames i f (omega arith) ∙ ap (λ g. Some (frame_of g)) (sym c.index.ensures) in
    record {
      run = λ ops script ranks size begun t run. c.in_ok-arrive.ensures.run ops script ranks size begun t (frames_of c.args.network.now) i at (c.loop-i.invariant.run ops script ranks size begun t run);
      ready = λ h. c.in_ok-arrive.ensures.ready (c.loop-i.invariant.ready h);
      came = λ k g l there.
          elim (cases_eq k i) [
            | inl same ↦ subst (HasCome c.args.turn (map process_of c.arrive.new.processes)) (same_Some (frame_of f) g (sym at ∙ ap (slice_get (frames_of c.args.network.now)) (sym same) ∙ there)) c.in_ok-arrive.ensures.came
            | inr other ↦ come_later c.args.turn g (map process_of c.loop-i.processes) (map process_of c.arrive.new.processes) (length-map c.arrive.new.processes process_of ∙ c.arrive.auto.processes ∙ sym (length-map c.loop-i.processes process_of)) c.in_ok-arrive.ensures.grown (c.loop-i.invariant.came k g (omega (arith, l, other)) there)
          ];
    }

pub returns-clause-run : goal.returns-clause-run
returns-clause-run g c = c.loop-i.invariant.run

pub returns-clause-came : goal.returns-clause-came
returns-clause-came g c now k d l =
    let frames = frames_of c.args.network.now in
    c.loop-i.invariant.came k (get_or frames k d) (omega (arith, l, c.loop-i-test.false, length-map c.args.network.now.frames.items frame_of)) (slice_get-get_or frames k d l)
