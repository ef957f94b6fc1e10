use Rattle.std.proofs.Common.{◌∙◌, subst, sym}
use Rattle.mpx_comm.specs.Forgetting.{HostForgets}
use Rattle.mpx_comm.specs.Calls.{ArePosted}
use Rattle.mpx_comm.proofs.Posting.{posted_closed, posted_later}
use Rattle.mpx_comm.proofs.desk.Desk.wait_and_forget.Goals as goal

pub invariant_of-self-in-Ok-Some : goal.invariant_of-self-in-Ok-Some
invariant_of-self-in-Ok-Some g c = record { posted = subst (ArePosted (g.H.Host.node c.await_one.new.host)) (sym c.shift_remove.ensures.keys) (posted_closed (g.H.Host.node c.await_one.new.host) c.args.self.now.requests.keys c.args.request (posted_later (g.H.Host.node c.args.self.now.host) (g.H.Host.node c.await_one.new.host) c.args.self.now.requests.keys c.await_one.ensures.later c.args.self.now.posted)) }

pub returns-in-Ok-Some : goal.returns-in-Ok-Some
returns-in-Ok-Some g c =
    let found = rw c.in-Ok-Some.field-0-is at c.in-Ok-Some.ensures.found in
    let forgot = rw c.name.ensures at c.forget_on.ensures.forgets in
    let lets = subst (λ rs. HostForgets g.H.Host.node g.H.Host.turned c.args.request.name rs c.await_one.new.host c.forget_on.new.self.host) (sym c.forget_on.ensures.requests) forgot in
    record { waits = (c.await_one.new.host, (found.0, found.1, c.forget_on.ensures.requests ∙ c.shift_remove.ensures.keys), c.await_one.ensures.later, lets) }
