use Rattle.std.proofs.Common.{inl, refl}
use Rattle.std.proofs.lemmas.Result.{err_from_is_err_and}
use Rattle.mpx_request.specs.Any.{LooksAt, PicksDone}
use Rattle.mpx_request.proofs.Any.{last_turned, some_last, some_wanting}
use Rattle.mpx_request.proofs.Harvesting.{by_first}
use Rattle.mpx_request.proofs.Many.{kept_later}
use Rattle.mpx_request.proofs.Steps.{later_more}
use Rattle.mpx_request.proofs.some.await_some.Goals as goal

pub returns-in_err-look_some-in-Some-clause-later : goal.returns-in_err-look_some-in-Some-clause-later
returns-in_err-look_some-in-Some-clause-later g c = later_more (g.H.Host.node c.args.host.now) (g.H.Host.node c.await_any.new.host) (g.H.Host.node c.look_some.new.host) c.await_any.ensures.later c.look_some.ensures.later

pub returns-in_ok-look_some-in-Some-clause-later : goal.returns-in_ok-look_some-in-Some-clause-later
returns-in_ok-look_some-in-Some-clause-later g c = later_more (g.H.Host.node c.args.host.now) (g.H.Host.node c.await_any.new.host) (g.H.Host.node c.look_some.new.host) c.await_any.ensures.later c.look_some.ensures.later

pub returns-in_err-look_some-in-Some-clause-gave_up : goal.returns-in_err-look_some-in-Some-clause-gave_up
returns-in_err-look_some-in-Some-clause-gave_up g c =
    let found = rw c.in-Some.is at c.in_ok-await_any.ensures.found in
    let turns = last_turned _ g.H.Host.node g.H.Host.turned g.met.H.Host.turns_more c.args.requests.now _ _ c.args.turns c.args.host.now c.await_any.new.host found in
    let looks = by_first g.H.Host.goes_by c.args.host.now c.await_any.new.host _ (λ ops. LooksAt ops g.H.Host.node g.H.Host.turned c.await_any.new.host c.look_some.new.host) (g.met.H.Host.stays_by _ _ turns.0 turns.1) ((c.look_some.ensures.no_turn, c.look_some.ensures.later), c.look_some.ensures.harvested) in
    let p = err_from_is_err_and c.from_residual-in_err-look_some-in-Some.result c.from_residual-in_err-look_some-in-Some.ensures.1 in
    rw (p.1, p.2) (inl (refl, some_wanting _ g.H.Host.node g.H.Host.turned g.met.H.Host.turns_more c.args.requests.now _ _ c.args.turns c.args.host.now c.await_any.new.host c.look_some.new.host found looks c.in_err-look_some-in-Some.ensures.wanting))

pub returns-in_ok-look_some-in-Some-clause-found : goal.returns-in_ok-look_some-in-Some-clause-found
returns-in_ok-look_some-in-Some-clause-found g c =
    let found = rw c.in-Some.is at c.in_ok-await_any.ensures.found in
    let turns = last_turned _ g.H.Host.node g.H.Host.turned g.met.H.Host.turns_more c.args.requests.now _ _ c.args.turns c.args.host.now c.await_any.new.host found in
    let on = by_first g.H.Host.goes_by c.args.host.now c.await_any.new.host _ (λ ops. LooksAt ops g.H.Host.node g.H.Host.turned c.await_any.new.host c.look_some.new.host × PicksDone ops (g.H.Host.node c.await_any.new.host) (g.H.Host.node c.look_some.new.host) c.args.requests.now c.in_ok-look_some-in-Some.field-0.items) (g.met.H.Host.stays_by _ _ turns.0 turns.1) (((c.look_some.ensures.no_turn, c.look_some.ensures.later), c.look_some.ensures.harvested), c.in_ok-look_some-in-Some.ensures.found) in
    some_last _ g.H.Host.node g.H.Host.turned g.met.H.Host.turns_more c.args.requests.now c.args.turns c.args.host.now c.await_any.new.host c.look_some.new.host _ _ c.in_ok-look_some-in-Some.field-0.items found on.0 on.1

pub look_some-requires : goal.look_some-requires
look_some-requires g c = record { kept = kept_later (g.H.Host.node c.args.host.now) (g.H.Host.node c.await_any.new.host) c.args.requests.now c.await_any.ensures.later c.requires.kept }
