use Rattle.std.proofs.Common.{◌≡◌, Some, sym, subst}
use Rattle.mpx_rank.specs.Answered.{answer_of}
use Rattle.mpx_threads.specs.declared.told.ToldCall.{ToldCall}
use Rattle.mpx_threads.specs.Plans.{planned_results}
use Rattle.mpx_threads.specs.ToldCalls.{AreSo}
use Rattle.mpx_threads.proofs.Telling.{so_more}
use Rattle.mpx_threads.proofs.told.Told.add.Goals as goal

pub invariant_of-self-2 : goal.invariant_of-self-2
invariant_of-self-2 g c =
    let known = planned_results g.L.PortLock.setup g.L.PortLock.me in
    let new : ToldCall = record { name = c.in_ok-name.name; call = c.args.ticket.now.call; answered = c.args.answered } in
    subst (AreSo known) (sym c.in_ok-push.ensures.items) (so_more known c.self.inside.calls.items new c.self.invariant (subst (λ n. known n c.args.ticket.now.call ≡ Some (answer_of c.args.answered)) (sym c.in_ok-name.ensures) c.requires))
