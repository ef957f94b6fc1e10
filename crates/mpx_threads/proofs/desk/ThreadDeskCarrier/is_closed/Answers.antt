use Rattle.std.proofs.Common.{◌≡◌, ◌+◌, subst}
use Rattle.mpx_value.specs.Histories.{has_freed}
use Rattle.mpx_threads.specs.ToldCalls.{DeskView, first_posts}
use Rattle.mpx_threads.proofs.Posting.{closed_so}
use Rattle.mpx_threads.proofs.desk.ThreadDeskCarrier.is_closed.Goals as goal

pub returns-clause-closed : goal.returns-clause-closed
returns-clause-closed g c =
    let d = g.L.PortLock in
    let name = c.args.communicator.now.0 in
    subst (λ (v : DeskView). c.is_closed.result ≡ has_freed name (first_posts d.setup d.me (d.before + v.1))) c.self.view_is
    (closed_so d.table d.setup d.me c.self.invariant.0 (d.before + c.self.inside.poster.share.amount) name c.is_closed.result c.is_closed.ensures.then)
