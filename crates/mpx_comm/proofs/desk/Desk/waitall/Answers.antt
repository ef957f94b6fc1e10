use Rattle.mpx_request.proofs.Many.{kept_later, kept_tested}
use Rattle.mpx_comm.proofs.Posting.{posted_all_closed, posted_later}
use Rattle.std.proofs.Common.{ap, ◌∙◌, refl, subst, sym}
use Rattle.std.specs.List.{list_any}
use Rattle.mpx_request.specs.Requests.{has_let_go}
use Rattle.mpx_comm.specs.Calls.{ArePosted}
use Rattle.mpx_comm.proofs.desk.Desk.waitall.Goals as goal

pub invariant_of-self-in-Ok-Some : goal.invariant_of-self-in-Ok-Some
invariant_of-self-in-Ok-Some g c = record { posted = subst (ArePosted (g.H.Host.node c.await_all.new.host)) (sym c.close_each.ensures) (posted_all_closed (g.H.Host.node c.await_all.new.host) c.deref-in-Ok-Some.result.now c.args.self.now.requests.keys (posted_later (g.H.Host.node c.args.self.now.host) (g.H.Host.node c.await_all.new.host) c.args.self.now.requests.keys c.await_all.ensures.later c.args.self.now.posted)) }

pub returns-in-Ok-Some-clause-waits : goal.returns-in-Ok-Some-clause-waits
returns-in-Ok-Some-clause-waits g c =
    let found = rw c.in-Ok-Some.field-0-is at c.in-Ok-Some.ensures.found in
    let found_by = rw c.deref-2.ensures.value at found in
    (found_by.0, found_by.1, rw c.deref-in-Ok-Some.ensures.value at c.close_each.ensures)

pub returns-in-Ok-None-clause-waits : goal.returns-in-Ok-None-clause-waits
returns-in-Ok-None-clause-waits g c =
    let found = rw c.in-Ok-None.field-0-is at c.in-Ok-None.ensures.found in
    let found_by = rw c.deref-2.ensures.value at found in
    let kept = kept_tested (g.H.Host.node c.args.self.now.host) c.args.requests.items
    (ap (λ rs. list_any (has_let_go (g.H.Host.node c.args.self.now.host)) rs) (sym c.deref.ensures.value) ∙ sym c.one_was_let_go.ensures ∙ c.if-one_was_let_go.false) in
    (refl, kept_later (g.H.Host.node c.args.self.now.host) (g.H.Host.node c.await_all.new.host) c.args.requests.items c.await_all.ensures.later kept, found_by.0, found_by.1, refl)

pub await_all-requires : goal.await_all-requires
await_all-requires g c = record {
  kept = kept_tested (g.H.Host.node c.args.self.now.host) c.deref-2.result.now
      (ap (λ rs. list_any (has_let_go (g.H.Host.node c.args.self.now.host)) rs) (c.deref-2.ensures.value ∙ sym c.deref.ensures.value) ∙ sym c.one_was_let_go.ensures ∙ c.if-one_was_let_go.false);
}

pub returns-in-Err-OutOfMemory-clause-waits : goal.returns-in-Err-OutOfMemory-clause-waits
returns-in-Err-OutOfMemory-clause-waits g c =
    let gave_up = rw c.in-Err-OutOfMemory.field-0-is at c.in-Err-OutOfMemory.ensures.gave_up in
    let kept = kept_tested (g.H.Host.node c.args.self.now.host) c.args.requests.items
    (ap (λ rs. list_any (has_let_go (g.H.Host.node c.args.self.now.host)) rs) (sym c.deref.ensures.value) ∙ sym c.one_was_let_go.ensures ∙ c.if-one_was_let_go.false) in
    (refl, kept_later (g.H.Host.node c.args.self.now.host) (g.H.Host.node c.await_all.new.host) c.args.requests.items c.await_all.ensures.later kept, rw c.deref-2.ensures.value at gave_up, refl)

pub returns-in-Err-GaveUp-clause-waits : goal.returns-in-Err-GaveUp-clause-waits
returns-in-Err-GaveUp-clause-waits g c =
    let gave_up = rw c.in-Err-GaveUp.field-0-is at c.in-Err-GaveUp.ensures.gave_up in
    let kept = kept_tested (g.H.Host.node c.args.self.now.host) c.args.requests.items
    (ap (λ rs. list_any (has_let_go (g.H.Host.node c.args.self.now.host)) rs) (sym c.deref.ensures.value) ∙ sym c.one_was_let_go.ensures ∙ c.if-one_was_let_go.false) in
    rw c.in-Err-GaveUp.field-0-is
    (refl, kept_later (g.H.Host.node c.args.self.now.host) (g.H.Host.node c.await_all.new.host) c.args.requests.items c.await_all.ensures.later kept, rw c.deref-2.ensures.value at gave_up, refl)
