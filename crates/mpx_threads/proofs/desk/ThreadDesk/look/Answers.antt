use Rattle.mpx_threads.proofs.Asking.{done_so}
use Rattle.mpx_threads.proofs.desk.ThreadDesk.look.Goals as goal

pub returns-in-Done : goal.returns-in-Done
returns-in-Done g c = done_so g.L.PortLock.table g.L.PortLock.setup g.L.PortLock.me c.self.invariant.0 c.args.ticket.now _ c.in-Done.finished c.in_ok-finished.ensures.then c.in-Done.is
