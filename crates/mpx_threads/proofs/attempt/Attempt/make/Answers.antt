use Rattle.std.proofs.Common.{Some, subst}
use Rattle.std.specs.Prelude.{Ok}
use Rattle.mpx_threads.specs.ToldCalls.{PostsAs, on_either}
use Rattle.mpx_threads.proofs.Looking.{tries_still, unposted_still}
use Rattle.mpx_threads.proofs.attempt.Attempt.make.Goals as goal

pub returns-in-Some : goal.returns-in-Some
returns-in-Some g c =
    let d = g.L.PortLock in
    let outcome = on_either d.setup.operations d.me c.args.self.now.posting.now c.args.name.now in
    let now = c.loop-look.poster.share.amount in
    let new = c.make_now.new.poster.share.amount in
    tries_still d.setup d.me d.before c.args.name.now c.args.poster.now.share.amount now c.loop-look.invariant outcome (Ok (Some c.in-Some.ticket)) new
    (subst (λ o. PostsAs d.setup d.me d.before c.args.name.now outcome (Ok o) now new) c.in-Some.is c.in_ok-ticket.ensures)

pub returns-then-not-goes_on : goal.returns-then-not-goes_on
returns-then-not-goes_on g c =
    let d = g.L.PortLock in
    let outcome = on_either d.setup.operations d.me c.args.self.now.posting.now c.args.name.now in
    let now = c.loop-look.poster.share.amount in
    let new = c.make_now.new.poster.share.amount in
    unposted_still d.setup d.me d.before c.args.name.now c.args.poster.now.share.amount now c.loop-look.invariant outcome new
    (subst (λ o. PostsAs d.setup d.me d.before c.args.name.now outcome (Ok o) now new) c.in-None.is c.in_ok-ticket.ensures)

pub loop-look-preserved : goal.loop-look-preserved
loop-look-preserved g c =
    let d = g.L.PortLock in
    let outcome = on_either d.setup.operations d.me c.args.self.now.posting.now c.args.name.now in
    let now = c.loop-look.poster.share.amount in
    let new = c.make_now.new.poster.share.amount in
    unposted_still d.setup d.me d.before c.args.name.now c.args.poster.now.share.amount now c.loop-look.invariant outcome new
    (subst (λ o. PostsAs d.setup d.me d.before c.args.name.now outcome (Ok o) now new) c.in-None.is c.in_ok-ticket.ensures)
