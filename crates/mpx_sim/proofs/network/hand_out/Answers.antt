use Rattle.std.proofs.Common.{◌∙◌, get_or, refl, arith}
use Rattle.std.proofs.lemmas.Option.{slice_get-get_or}
use Rattle.mpx_post.proofs.Lists.{set_cases}
use Rattle.mpx_sim.specs.Shown.{process_of}
use Rattle.mpx_sim.specs.SideBySide.{IsReady}
use Rattle.mpx_sim.proofs.Sending.{kept}
use Rattle.mpx_sim.proofs.SideBySide.{ready_same}
use Rattle.mpx_sim.proofs.network.hand_out.Goals as goal

pub loop-p-init : goal.loop-p-init
loop-p-init c = record { same = refl; ready = λ h. h }

pub loop-p-preserved : goal.loop-p-preserved
loop-p-preserved c =
    let xs = c.loop-p.processes in
    let p = c.loop-p.p in
    let x = c.index-processes-p.result in
    let new = c.hand_to.new.process in
    record {
      same = kept process_of xs p x new (omega arith) c.hand_to.ensures.same ∙ c.loop-p.invariant.same;
      ready = λ h q y at.
          set_cases xs p q new y IsReady at
          (λ here. ready_same (get_or xs p x) new c.hand_to.ensures.same c.hand_to.ensures.ahead c.hand_to.ensures.last (c.loop-p.invariant.ready h p (get_or xs p x) (slice_get-get_or xs p x (omega arith))))
          (λ old other. c.loop-p.invariant.ready h q y old);
    }
