use Rattle.std.proofs.Common.{◌+◌, ap, subst, sym}
use Rattle.mpx_statement.specs.Statements.{Gathers, draft_of, gathers_of}
use Rattle.mpx_threads.specs.ToldCalls.{IsNextGathered}
use Rattle.mpx_threads.proofs.Posting.{next_gathered, next_posted}
use Rattle.mpx_threads.proofs.attempt.Attempt.make_now.Goals as goal

pub post_gathered-requires-clause-next : goal.post_gathered-requires-clause-next
post_gathered-requires-clause-next g c =
    let d = g.L.PortLock in
    let count = d.before + c.args.poster.now.share.amount in
    let asked : Gathers = record { tag = c.in-CreateGroup.tag; ranks = c.in-CreateGroup.ranks } in
    subst (λ r. IsNextGathered d.setup d.me count c.args.name.now c.in-CreateGroup.tag r (draft_of c.args.self.now.posting.now)) (sym c.as_slice.ensures)
    (next_gathered d.table d.setup d.me c.requires.can.1.1 count c.args.name.now c.args.self.now.posting.now asked (ap gathers_of c.in-CreateGroup.is) c.requires.next)

pub post_on-requires-clause-next : goal.post_on-requires-clause-next
post_on-requires-clause-next g c =
    let d = g.L.PortLock in
    next_posted d.table d.setup d.me c.requires.can.1.1 (d.before + c.args.poster.now.share.amount) c.args.name.now c.args.self.now.posting.now (ap gathers_of c.in-Call.is) c.requires.next

pub post_on-requires-in-Start-clause-next : goal.post_on-requires-in-Start-clause-next
post_on-requires-in-Start-clause-next g c =
    let d = g.L.PortLock in
    next_posted d.table d.setup d.me c.requires.can.1.1 (d.before + c.args.poster.now.share.amount) c.args.name.now c.args.self.now.posting.now (ap gathers_of c.in-Start.is) c.requires.next

pub post_on-requires-in-New-clause-next : goal.post_on-requires-in-New-clause-next
post_on-requires-in-New-clause-next g c =
    let d = g.L.PortLock in
    next_posted d.table d.setup d.me c.requires.can.1.1 (d.before + c.args.poster.now.share.amount) c.args.name.now c.args.self.now.posting.now (ap gathers_of c.in-New.is) c.requires.next
