use Rattle.std.proofs.Common.{◌≡◌, ◌+◌, ◌++◌, ◌∷◌, [], map, length, length-append, ap, sym, ◌∙◌, subst, arith}
use Rattle.std.specs.Prelude.{slice_get}
use Rattle.std.proofs.lemmas.List.{map-append}
use Rattle.mpx_system.specs.Systems.{start_system}
use Rattle.mpx_sim.specs.Running.{IsAt}
use Rattle.mpx_sim.specs.Shown.{process_of}
use Rattle.mpx_sim.specs.SideBySide.{AreReady}
use Rattle.mpx_sim.proofs.SideBySide.{ready_more}
use Rattle.mpx_sim.proofs.Starting.{one_more, one_more_first, run_starts}
use Rattle.mpx_sim.proofs.start.start.Goals as goal

pub loop-me-preserved : goal.loop-me-preserved
loop-me-preserved c =
    let script = c.args.script.now in
    let xs = c.loop-me.processes.items in
    let v = process_of c.in_ok-start_at.field-0 in
    let same : map process_of c.push.new.self.items ≡ map process_of xs ++ v ∷ [] = ap (map process_of) c.in_ok-push.ensures.items ∙ map-append process_of xs (c.in_ok-start_at.field-0 ∷ []) in
    let size = script.ranks + c.args.relays in
    record {
      ready = subst AreReady (sym c.in_ok-push.ensures.items) (ready_more xs c.in_ok-start_at.field-0 c.loop-me.invariant.ready c.in_ok-start_at.ensures.ready);
      count = ap length same ∙ length-append (map process_of xs) (v ∷ []) ∙ omega (arith, c.loop-me.invariant.count);
      first = λ p x e. one_more_first (map process_of xs) v c.in_ok-start_at.ensures.sender c.loop-me.invariant.first p x (ap (λ ys. slice_get ys p) (sym same) ∙ e);
      each = λ ops p x e.
          one_more ops script.statements script.ranks size (map process_of xs) v c.loop-me.me c.loop-me.invariant.count
          (subst (λ n. IsAt script.ranks (start_system ops script.statements script.ranks (n + c.args.relays)) c.loop-me.me v) c.ranks-ranks.ensures.ranks (c.in_ok-start_at.ensures.at ops))
          (c.loop-me.invariant.each ops) p x (ap (λ ys. slice_get ys p) (sym same) ∙ e);
    }

pub returns-clause-run : goal.returns-clause-run
returns-clause-run c ops first =
    let script = c.args.script.now in
    run_starts ops script.statements script.ranks (script.ranks + c.args.relays) first (map process_of c.loop-me.processes.items) (c.loop-me.invariant.count ∙ omega (arith, c.loop-me-test.false, c.ranks-ranks.ensures.ranks)) (c.loop-me.invariant.each ops) c.loop-me.invariant.first
