use Rattle.mpx_request.proofs.Many.{kept_later, kept_tested}
use Rattle.mpx_request.proofs.Harvesting.{harvested_none}
use Rattle.std.proofs.Common.{ap, ◌∙◌, refl, sym}
use Rattle.std.specs.List.{list_any}
use Rattle.mpx_request.specs.Requests.{has_let_go}
use Rattle.mpx_request.proofs.all.test_all.Goals as goal

pub look_all-requires : goal.look_all-requires
look_all-requires g c = record {
  kept = kept_tested (g.H.Host.node c.args.host.now) c.deref-2.result.now
      (ap (λ rs. list_any (has_let_go (g.H.Host.node c.args.host.now)) rs) (c.deref-2.ensures.value ∙ sym c.deref.ensures.value) ∙ sym c.one_was_let_go.ensures ∙ c.if-one_was_let_go.false);
}

pub returns-then-one_was_let_go-clause-harvested : goal.returns-then-one_was_let_go-clause-harvested
returns-then-one_was_let_go-clause-harvested g c = harvested_none _ _

pub returns-in-Ok-None-clause-tests : goal.returns-in-Ok-None-clause-tests
returns-in-Ok-None-clause-tests g c =
    let found = rw c.in-Ok-None.field-0-is at c.in-Ok-None.ensures.found in
    let pending = rw c.deref-2.ensures.value at found in
    let kept = kept_tested (g.H.Host.node c.args.host.now) c.args.requests.items
    (ap (λ rs. list_any (has_let_go (g.H.Host.node c.args.host.now)) rs) (sym c.deref.ensures.value) ∙ sym c.one_was_let_go.ensures ∙ c.if-one_was_let_go.false) in
    (refl, kept_later (g.H.Host.node c.args.host.now) (g.H.Host.node c.look_all.new.host) c.args.requests.items c.look_all.ensures.later kept, pending, refl)

pub returns-in-Err-clause-tests : goal.returns-in-Err-clause-tests
returns-in-Err-clause-tests g c =
    let at_hand = rw c.deref-2.ensures.value at c.in-Err.ensures.wanting in
    let kept = kept_tested (g.H.Host.node c.args.host.now) c.args.requests.items
    (ap (λ rs. list_any (has_let_go (g.H.Host.node c.args.host.now)) rs) (sym c.deref.ensures.value) ∙ sym c.one_was_let_go.ensures ∙ c.if-one_was_let_go.false) in
    (refl, kept_later (g.H.Host.node c.args.host.now) (g.H.Host.node c.look_all.new.host) c.args.requests.items c.look_all.ensures.later kept, at_hand, refl)
