use Rattle.mpx_threads.specs.Plans.{planned_results}
use Rattle.std.proofs.Common.{◌≡◌, Some, subst}
use Rattle.mpx_rank.specs.Answered.{answer_of}
use Rattle.mpx_threads.specs.ToldCalls.{told_of}
use Rattle.mpx_threads.proofs.Telling.{told_there}
use Rattle.mpx_threads.proofs.desk.ThreadDesk.tell_again.Goals as goal

pub returns : goal.returns
returns g c =
    let a = answer_of c.in-Some.answered.now in (
      a,
      subst (λ v. told_of (planned_results g.L.PortLock.setup g.L.PortLock.me) v.0 c.args.ticket.now.name c.args.ticket.now.call ≡ Some a) c.self.view_is (told_there (planned_results g.L.PortLock.setup g.L.PortLock.me) c.self.inside.told c.args.ticket.now.name c.args.ticket.now.call a c.in-Some.ensures.is_there c.in-Some.ensures.some),
      c.in_ok-said.ensures.outcome,
      c.in_ok-said.ensures.given,
    )
