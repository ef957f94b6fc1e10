use Rattle.std.proofs.Common.{◌∙◌, refl, subst, sym}
use Rattle.mpx_request.specs.Requests.{AreKept}
use Rattle.mpx_comm.specs.Calls.{ArePosted}
use Rattle.mpx_request.proofs.Any.{closes_any}
use Rattle.mpx_comm.proofs.Posting.{kept_posted, posted_removed, posted_later}
use Rattle.mpx_comm.proofs.desk.Desk.waitany.Goals as goal

pub invariant_of-self-in-Ok-Some : goal.invariant_of-self-in-Ok-Some
invariant_of-self-in-Ok-Some g c = record { posted = subst (ArePosted (g.H.Host.node c.await_any.new.host)) (sym c.shift_remove_index.ensures.keys) (posted_removed (g.H.Host.node c.await_any.new.host) c.args.self.now.requests.keys c.in-Ok-Some.place (posted_later (g.H.Host.node c.args.self.now.host) (g.H.Host.node c.await_any.new.host) c.args.self.now.requests.keys c.await_any.ensures.later c.args.self.now.posted)) }

pub returns-in-Err-OutOfMemory-clause-waits : goal.returns-in-Err-OutOfMemory-clause-waits
returns-in-Err-OutOfMemory-clause-waits g c =
    let gave_up = rw c.in-Err-OutOfMemory.field-0-is at c.in-Err-OutOfMemory.ensures.gave_up in
    (rw c.as_slice.ensures.keys at gave_up, refl)

pub returns-in-Err-GaveUp-clause-waits : goal.returns-in-Err-GaveUp-clause-waits
returns-in-Err-GaveUp-clause-waits g c =
    let gave_up = rw c.in-Err-GaveUp.field-0-is at c.in-Err-GaveUp.ensures.gave_up in
    rw c.in-Err-GaveUp.field-0-is (rw c.as_slice.ensures.keys at gave_up, refl)

pub returns-in-Ok-Some-clause-waits : goal.returns-in-Ok-Some-clause-waits
returns-in-Ok-Some-clause-waits g c =
    let found = rw c.in-Ok-Some.field-0-is at c.in-Ok-Some.ensures.found in
    closes_any _ g.H.Host.node g.H.Host.turned g.met.H.Host.turns_more c.args.self.now.requests.keys c.args.turns c.args.self.now.host c.await_any.new.host c.in-Ok-Some.place c.unwrap-request.result c.in-Ok-Some.finished c.shift_remove_index.new.self.keys (sym c.shift_remove_index.ensures.key ∙ c.unwrap-request.ensures) c.shift_remove_index.ensures.keys
    (rw c.as_slice.ensures.keys at found)

pub await_any-requires : goal.await_any-requires
await_any-requires g c = record { kept = subst (AreKept (g.H.Host.node c.args.self.now.host)) (sym c.as_slice.ensures.keys) (kept_posted (g.H.Host.node c.args.self.now.host) c.args.self.now.requests.keys c.args.self.now.posted) }
