use Rattle.std.proofs.Common.{◌≡◌, ◌-◌, ◌<◌, arith}
use Rattle.std.proofs.lemmas.Result.{err_from_is_err_and}
use Rattle.mpx_request.specs.Requests.{AreResults, OneIsAtHand, OneIsPending}
use Rattle.mpx_request.proofs.Steps.{later_more, later_none}
use Rattle.mpx_request.proofs.Turns.{awaits_look, awaits_end, awaits_turn, awaits_none, gives_up_look, gives_up_turn}
use Rattle.mpx_request.proofs.Many.{kept_later}
use Rattle.mpx_request.proofs.looking.await_all.Goals as goal

pub returns-in-Some-clause-found : goal.returns-in-Some-clause-found
returns-in-Some-clause-found g c =
    let found : AreResults (g.H.Host.node c.look_all.new.host) c.args.requests.now c.in-Some.all.items = rw c.in-Some.is at c.in_ok-all.ensures.found in
    (found, (c.args.turns - c.loop-all.left, omega arith, awaits_look g.H.Host.turned g.met.H.Host.turns_more g.H.Host.node (λ node. OneIsPending node c.args.requests.now) c.args.host.now c.loop-all.host c.look_all.new.host (c.args.turns - c.loop-all.left) c.loop-all.invariant.awaited c.look_all.ensures.no_turn c.look_all.ensures.later))

pub loop-all-preserved : goal.loop-all-preserved
loop-all-preserved g c =
    let some : 0 < c.loop-all.left = grind (arith, c.if-left-eq0.false) in
    let pending : OneIsPending (g.H.Host.node c.look_all.new.host) c.args.requests.now = rw c.in_default.is at c.in_ok-all.ensures.found in
    record {
      later = later_more _ _ _ c.loop-all.invariant.later (later_more _ _ _ c.look_all.ensures.later c.turn.ensures.later);
      awaited = awaits_turn g.H.Host.turned g.met.H.Host.turns_more g.H.Host.node (λ node. OneIsPending node c.args.requests.now) c.args.host.now c.loop-all.host c.look_all.new.host c.turn.new.self c.args.turns c.loop-all.left c.loop-all.invariant.few some c.loop-all.invariant.awaited c.look_all.ensures.no_turn c.look_all.ensures.later pending c.in_ok-turn.ensures.counted c.turn.ensures.later;
      few = omega (arith, c.loop-all.invariant.few);
    }

pub returns-then-left-eq0-clause-found : goal.returns-then-left-eq0-clause-found
returns-then-left-eq0-clause-found g c =
    let end : c.loop-all.left ≡ 0 = grind (arith, c.if-left-eq0.true) in
    let pending : OneIsPending (g.H.Host.node c.look_all.new.host) c.args.requests.now = rw c.in_default.is at c.in_ok-all.ensures.found in
    (pending, awaits_end g.H.Host.turned g.met.H.Host.turns_more g.H.Host.node (λ node. OneIsPending node c.args.requests.now) c.args.host.now c.loop-all.host c.look_all.new.host c.args.turns c.loop-all.left end c.loop-all.invariant.awaited c.look_all.ensures.no_turn c.look_all.ensures.later)

pub returns-in_err-all-clause-later : goal.returns-in_err-all-clause-later
returns-in_err-all-clause-later g c = later_more (g.H.Host.node c.args.host.now) (g.H.Host.node c.loop-all.host) (g.H.Host.node c.look_all.new.host) c.loop-all.invariant.later c.look_all.ensures.later

pub returns-in-Some-clause-later : goal.returns-in-Some-clause-later
returns-in-Some-clause-later g c = later_more (g.H.Host.node c.args.host.now) (g.H.Host.node c.loop-all.host) (g.H.Host.node c.look_all.new.host) c.loop-all.invariant.later c.look_all.ensures.later

pub returns-then-left-eq0-clause-later : goal.returns-then-left-eq0-clause-later
returns-then-left-eq0-clause-later g c = later_more (g.H.Host.node c.args.host.now) (g.H.Host.node c.loop-all.host) (g.H.Host.node c.look_all.new.host) c.loop-all.invariant.later c.look_all.ensures.later

pub returns-in_err-turn-clause-later : goal.returns-in_err-turn-clause-later
returns-in_err-turn-clause-later g c = later_more (g.H.Host.node c.args.host.now) (g.H.Host.node c.look_all.new.host) (g.H.Host.node c.turn.new.self) (later_more (g.H.Host.node c.args.host.now) (g.H.Host.node c.loop-all.host) (g.H.Host.node c.look_all.new.host) c.loop-all.invariant.later c.look_all.ensures.later) c.turn.ensures.later

pub loop-all-init : goal.loop-all-init
loop-all-init g c = record { later = later_none (g.H.Host.node c.args.host.now); awaited = awaits_none g.H.Host.turned g.met.H.Host.turns_more g.H.Host.node (λ node. OneIsPending node c.args.requests.now) c.args.host.now c.args.turns (g.met.H.Host.turns_none c.args.host.now); few = omega arith }

pub loop-all-smaller : goal.loop-all-smaller
loop-all-smaller g c = let some : 0 < c.loop-all.left = grind (arith, c.if-left-eq0.false) in omega (arith, some)

pub overflow_sub-left : goal.overflow_sub-left
overflow_sub-left g c = let some : 0 < c.loop-all.left = grind (arith, c.if-left-eq0.false) in omega (arith, some)

pub returns-in_err-all-clause-gave_up : goal.returns-in_err-all-clause-gave_up
returns-in_err-all-clause-gave_up g c =
    let p = err_from_is_err_and c.from_residual.result c.from_residual.ensures.1 in
    rw (p.1, p.2) (gives_up_look g.H.Host.turned g.met.H.Host.turns_more g.H.Host.node (λ node. OneIsPending node c.args.requests.now) g.H.Host.turn_refused (λ node. OneIsAtHand node c.args.requests.now) c.args.host.now c.loop-all.host c.look_all.new.host c.args.turns c.loop-all.left c.loop-all.invariant.awaited c.look_all.ensures.no_turn c.look_all.ensures.later c.in_err-all.ensures.wanting)

pub returns-in_err-turn-clause-gave_up : goal.returns-in_err-turn-clause-gave_up
returns-in_err-turn-clause-gave_up g c =
    let some : 0 < c.loop-all.left = grind (arith, c.if-left-eq0.false) in
    let pending : OneIsPending (g.H.Host.node c.look_all.new.host) c.args.requests.now = rw c.in_default.is at c.in_ok-all.ensures.found in
    let p = err_from_is_err_and c.from_residual-in_err-turn.result c.from_residual-in_err-turn.ensures.1 in
    rw (p.1, p.2) (gives_up_turn g.H.Host.turned g.met.H.Host.turns_more g.H.Host.node (λ node. OneIsPending node c.args.requests.now) g.H.Host.turn_refused (λ node. OneIsAtHand node c.args.requests.now) _ c.args.host.now c.loop-all.host c.look_all.new.host c.turn.new.self c.args.turns c.loop-all.left c.loop-all.invariant.few some c.loop-all.invariant.awaited c.look_all.ensures.no_turn c.look_all.ensures.later pending c.in_err-turn.ensures.refused)

pub look_all-requires : goal.look_all-requires
look_all-requires g c = record { kept = kept_later (g.H.Host.node c.args.host.now) (g.H.Host.node c.loop-all.host) c.args.requests.now c.loop-all.invariant.later c.requires.kept }
