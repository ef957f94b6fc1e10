use Rattle.std.proofs.Common.{◌≡◌, true, false, inl, inr, map, ap, ◌∙◌, sym, Some, arith}
use Rattle.std.specs.Prelude.{slice_get}
use Rattle.std.proofs.lemmas.Bool.{cases_eq}
use Rattle.mpx_sim.specs.Running.{is_waiting_at}
use Rattle.mpx_post.proofs.Lists.{element}
use Rattle.mpx_sim.specs.Shown.{process_of}
use Rattle.mpx_sim.proofs.turns.are_finished.Goals as goal

pub loop-p-preserved : goal.loop-p-preserved
loop-p-preserved c q l =
    let xs = c.args.processes.now in
    let here : is_waiting_at (slice_get (map process_of xs) c.loop-p.p) ≡ false =
    ap is_waiting_at (element process_of xs c.loop-p.p c.index-processes-p.result (omega arith)) ∙ ap (λ x. is_waiting_at (Some (process_of x))) (sym c.index-processes-p.is) ∙ sym c.is_waiting.ensures ∙ c.if-is_waiting.false in
    elim (cases_eq q c.loop-p.p) [
      | inl same ↦ ap (λ n. is_waiting_at (slice_get (map process_of xs) n)) same ∙ here
      | inr other ↦ c.loop-p.invariant q (omega (arith, l, other))
    ]

pub returns-then-is_waiting-clause-one : goal.returns-then-is_waiting-clause-one
returns-then-is_waiting-clause-one c e =
    let xs = c.args.processes.now in
    let here : is_waiting_at (slice_get (map process_of xs) c.loop-p.p) ≡ true =
    ap is_waiting_at (element process_of xs c.loop-p.p c.index-processes-p.result (omega arith)) ∙ ap (λ x. is_waiting_at (Some (process_of x))) (sym c.index-processes-p.is) ∙ sym c.is_waiting.ensures ∙ c.if-is_waiting.true in
    record { place = c.loop-p.p; among = omega arith; waits = here }
