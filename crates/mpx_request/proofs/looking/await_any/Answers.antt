use Rattle.std.proofs.Common.{◌≡◌, ◌<◌, inl, refl, arith}
use Rattle.std.proofs.lemmas.Result.{err_from_is_err_and}
use Rattle.mpx_request.specs.Any.{FindsAny, LooksAt, LooksInVain}
use Rattle.mpx_request.specs.Requests.{OneIsAtHand}
use Rattle.mpx_request.proofs.Any.{any_end, any_found, any_last, any_none, any_refused, any_turn}
use Rattle.mpx_request.proofs.Harvesting.{by_first}
use Rattle.mpx_request.proofs.Steps.{later_more, later_none}
use Rattle.mpx_request.proofs.Many.{kept_later}
use Rattle.mpx_request.proofs.looking.await_any.Goals as goal

pub loop-found-init : goal.loop-found-init
loop-found-init g c = record {
  later = later_none (g.H.Host.node c.args.host.now);
  awaited = any_none _ g.H.Host.node g.H.Host.turned g.met.H.Host.turns_more c.args.requests.now c.args.host.now c.args.turns (g.met.H.Host.turns_none c.args.host.now);
  few = omega arith;
}

pub loop-found-preserved : goal.loop-found-preserved
loop-found-preserved g c =
    let some : 0 < c.loop-found.left = grind (arith, c.if-left-eq0.false) in
    let pending = rw c.in_default.is at c.in_ok-found.ensures.found in
    let vain = by_first g.H.Host.goes_by c.args.host.now c.loop-found.host _ (λ ops. LooksInVain ops g.H.Host.node g.H.Host.turned c.args.requests.now c.loop-found.host c.look_any.new.host) (g.met.H.Host.stays_by _ _ _ c.loop-found.invariant.awaited.0) (((c.look_any.ensures.no_turn, c.look_any.ensures.later), c.look_any.ensures.harvested), pending) in
    record {
      later = later_more _ _ _ c.loop-found.invariant.later (later_more _ _ _ c.look_any.ensures.later c.turn.ensures.later);
      awaited = any_turn _ g.H.Host.node g.H.Host.turned g.met.H.Host.turns_more c.args.requests.now c.args.host.now c.loop-found.host c.look_any.new.host c.turn.new.self c.args.turns c.loop-found.left c.loop-found.invariant.few some c.loop-found.invariant.awaited vain c.in_ok-turn.ensures.counted c.turn.ensures.later;
      few = omega (arith, c.loop-found.invariant.few);
    }

pub returns-in-Some-clause-found : goal.returns-in-Some-clause-found
returns-in-Some-clause-found g c =
    let found = rw c.in-Some.is at c.in_ok-found.ensures.found in
    let ends = by_first g.H.Host.goes_by c.args.host.now c.loop-found.host _ (λ ops. LooksAt ops g.H.Host.node g.H.Host.turned c.loop-found.host c.look_any.new.host × FindsAny ops (g.H.Host.node c.loop-found.host) (g.H.Host.node c.look_any.new.host) c.args.requests.now c.in-Some.found.0 c.in-Some.found.1) (g.met.H.Host.stays_by _ _ _ c.loop-found.invariant.awaited.0) (((c.look_any.ensures.no_turn, c.look_any.ensures.later), c.look_any.ensures.harvested), found) in
    any_found _ g.H.Host.node g.H.Host.turned g.met.H.Host.turns_more c.args.requests.now c.in-Some.found.0 c.in-Some.found.1 c.args.host.now c.loop-found.host c.look_any.new.host c.args.turns c.loop-found.left c.loop-found.invariant.awaited ends

pub returns-then-left-eq0-clause-found : goal.returns-then-left-eq0-clause-found
returns-then-left-eq0-clause-found g c =
    let end : c.loop-found.left ≡ 0 = grind (arith, c.if-left-eq0.true) in
    let pending = rw c.in_default.is at c.in_ok-found.ensures.found in
    let vain = by_first g.H.Host.goes_by c.args.host.now c.loop-found.host _ (λ ops. LooksInVain ops g.H.Host.node g.H.Host.turned c.args.requests.now c.loop-found.host c.look_any.new.host) (g.met.H.Host.stays_by _ _ _ c.loop-found.invariant.awaited.0) (((c.look_any.ensures.no_turn, c.look_any.ensures.later), c.look_any.ensures.harvested), pending) in
    any_end _ g.H.Host.node g.H.Host.turned g.met.H.Host.turns_more c.args.requests.now c.args.host.now c.loop-found.host c.look_any.new.host c.args.turns c.loop-found.left end c.loop-found.invariant.awaited vain

pub returns-in_err-found-clause-gave_up : goal.returns-in_err-found-clause-gave_up
returns-in_err-found-clause-gave_up g c =
    let look = by_first g.H.Host.goes_by c.args.host.now c.loop-found.host _ (λ ops. LooksAt ops g.H.Host.node g.H.Host.turned c.loop-found.host c.look_any.new.host) (g.met.H.Host.stays_by _ _ _ c.loop-found.invariant.awaited.0) ((c.look_any.ensures.no_turn, c.look_any.ensures.later), c.look_any.ensures.harvested) in
    let p = err_from_is_err_and c.from_residual.result c.from_residual.ensures.1 in
    rw (p.1, p.2) (inl (refl, any_last _ g.H.Host.node g.H.Host.turned g.met.H.Host.turns_more c.args.requests.now (λ looked now. OneIsAtHand now c.args.requests.now) c.args.host.now c.loop-found.host c.look_any.new.host c.args.turns c.loop-found.left c.loop-found.invariant.awaited look c.in_err-found.ensures.wanting))

pub returns-in_err-turn-clause-gave_up : goal.returns-in_err-turn-clause-gave_up
returns-in_err-turn-clause-gave_up g c =
    let some : 0 < c.loop-found.left = grind (arith, c.if-left-eq0.false) in
    let pending = rw c.in_default.is at c.in_ok-found.ensures.found in
    let vain = by_first g.H.Host.goes_by c.args.host.now c.loop-found.host _ (λ ops. LooksInVain ops g.H.Host.node g.H.Host.turned c.args.requests.now c.loop-found.host c.look_any.new.host) (g.met.H.Host.stays_by _ _ _ c.loop-found.invariant.awaited.0) (((c.look_any.ensures.no_turn, c.look_any.ensures.later), c.look_any.ensures.harvested), pending) in
    let p = err_from_is_err_and c.from_residual-in_err-turn.result c.from_residual-in_err-turn.ensures.1 in
    rw (p.1, p.2) (any_refused _ g.H.Host.node g.H.Host.turned g.met.H.Host.turns_more c.args.requests.now g.H.Host.turn_refused _ c.args.host.now c.loop-found.host c.look_any.new.host c.turn.new.self c.args.turns c.loop-found.left c.loop-found.invariant.few some c.loop-found.invariant.awaited vain c.in_err-turn.ensures.refused)

pub returns-in_err-found-clause-later : goal.returns-in_err-found-clause-later
returns-in_err-found-clause-later g c = later_more (g.H.Host.node c.args.host.now) (g.H.Host.node c.loop-found.host) (g.H.Host.node c.look_any.new.host) c.loop-found.invariant.later c.look_any.ensures.later

pub returns-in-Some-clause-later : goal.returns-in-Some-clause-later
returns-in-Some-clause-later g c = later_more (g.H.Host.node c.args.host.now) (g.H.Host.node c.loop-found.host) (g.H.Host.node c.look_any.new.host) c.loop-found.invariant.later c.look_any.ensures.later

pub returns-then-left-eq0-clause-later : goal.returns-then-left-eq0-clause-later
returns-then-left-eq0-clause-later g c = later_more (g.H.Host.node c.args.host.now) (g.H.Host.node c.loop-found.host) (g.H.Host.node c.look_any.new.host) c.loop-found.invariant.later c.look_any.ensures.later

pub returns-in_err-turn-clause-later : goal.returns-in_err-turn-clause-later
returns-in_err-turn-clause-later g c = later_more (g.H.Host.node c.args.host.now) (g.H.Host.node c.look_any.new.host) (g.H.Host.node c.turn.new.self) (later_more (g.H.Host.node c.args.host.now) (g.H.Host.node c.loop-found.host) (g.H.Host.node c.look_any.new.host) c.loop-found.invariant.later c.look_any.ensures.later) c.turn.ensures.later

pub loop-found-smaller : goal.loop-found-smaller
loop-found-smaller g c = let some : 0 < c.loop-found.left = grind (arith, c.if-left-eq0.false) in omega (arith, some)

pub overflow_sub-left : goal.overflow_sub-left
overflow_sub-left g c = let some : 0 < c.loop-found.left = grind (arith, c.if-left-eq0.false) in omega (arith, some)

pub look_any-requires : goal.look_any-requires
look_any-requires g c = record { kept = kept_later (g.H.Host.node c.args.host.now) (g.H.Host.node c.loop-found.host) c.args.requests.now c.loop-found.invariant.later c.requires.kept }
