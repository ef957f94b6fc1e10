use Rattle.std.proofs.Common.{inr, map, refl, subst, sym}
use Rattle.mpx_request.specs.Requests.{AreKept}
use Rattle.mpx_comm.specs.Calls.{ArePosted}
use Rattle.mpx_request.proofs.Any.{closes_done}
use Rattle.mpx_comm.proofs.Posting.{kept_posted, posted_all_closed, posted_later}
use Rattle.mpx_comm.proofs.desk.Desk.waitsome.Goals as goal

pub invariant_of-self-in-Ok-Some : goal.invariant_of-self-in-Ok-Some
invariant_of-self-in-Ok-Some g c = record { posted = subst (ArePosted (g.H.Host.node c.await_some.new.host)) (sym c.close_done.ensures) (posted_all_closed (g.H.Host.node c.await_some.new.host) (map (λ d. d.0) c.deref.result.now) c.args.self.now.requests.keys (posted_later (g.H.Host.node c.args.self.now.host) (g.H.Host.node c.await_some.new.host) c.args.self.now.requests.keys c.await_some.ensures.later c.args.self.now.posted)) }

pub returns-in-Err-OutOfMemory-clause-waits : goal.returns-in-Err-OutOfMemory-clause-waits
returns-in-Err-OutOfMemory-clause-waits g c =
    let gave_up = rw c.in-Err-OutOfMemory.field-0-is at c.in-Err-OutOfMemory.ensures.gave_up in
    (rw c.as_slice.ensures.keys at gave_up, refl)

pub returns-in-Err-GaveUp-clause-waits : goal.returns-in-Err-GaveUp-clause-waits
returns-in-Err-GaveUp-clause-waits g c =
    let gave_up = rw c.in-Err-GaveUp.field-0-is at c.in-Err-GaveUp.ensures.gave_up in
    rw c.in-Err-GaveUp.field-0-is (rw c.as_slice.ensures.keys at gave_up, refl)

pub returns-in-Ok-Some-clause-waits : goal.returns-in-Ok-Some-clause-waits
returns-in-Ok-Some-clause-waits g c =
    let found = rw c.in-Ok-Some.field-0-is at c.in-Ok-Some.ensures.found in
    let some = rw c.as_slice.ensures.keys at found in
    inr (some.0, closes_done _ g.H.Host.node g.H.Host.turned g.met.H.Host.turns_more c.args.self.now.requests.keys c.args.turns c.args.self.now.host c.await_some.new.host c.in-Ok-Some.done.items c.close_done.new.set.keys (rw c.deref.ensures.value at c.close_done.ensures) some.1)

pub await_some-requires : goal.await_some-requires
await_some-requires g c = record { kept = subst (AreKept (g.H.Host.node c.args.self.now.host)) (sym c.as_slice.ensures.keys) (kept_posted (g.H.Host.node c.args.self.now.host) c.args.self.now.requests.keys c.args.self.now.posted) }
