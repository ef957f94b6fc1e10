use Rattle.std.proofs.Common.{◌≡◌, ◌-◌, ◌<◌, ◌∙◌, Some, arith}
use Rattle.std.proofs.lemmas.Result.{err_from_is_err_and}
use Rattle.mpx_request.specs.Later.{IsAtHand, IsPending}
use Rattle.mpx_request.specs.Requests.{result_of}
use Rattle.mpx_request.proofs.Steps.{later_more, later_none}
use Rattle.mpx_request.proofs.Turns.{awaits_look, awaits_end, awaits_turn, awaits_none, gives_up_look, gives_up_turn}
use Rattle.mpx_request.proofs.looking.await_one.Goals as goal

pub returns-in-Some-clause-found : goal.returns-in-Some-clause-found
returns-in-Some-clause-found g c =
    let found : result_of (g.H.Host.node c.look.new.host) c.args.request.now ≡ Some c.in-Some.finished = rw c.in-Some.is at c.in_ok-finished.ensures.found in
    (found, (c.args.turns - c.loop-finished.left, omega arith, awaits_look g.H.Host.turned g.met.H.Host.turns_more g.H.Host.node (λ node. IsPending node c.args.request.now.name c.args.request.now.call) c.args.host.now c.loop-finished.host c.look.new.host (c.args.turns - c.loop-finished.left) c.loop-finished.invariant.awaited c.look.ensures.no_turn c.look.ensures.later))

pub loop-finished-preserved : goal.loop-finished-preserved
loop-finished-preserved g c =
    let some : 0 < c.loop-finished.left = grind (arith, c.if-left-eq0.false) in
    let pending : IsPending (g.H.Host.node c.look.new.host) c.args.request.now.name c.args.request.now.call = rw c.in_default.is at c.in_ok-finished.ensures.found in
    record {
      later = later_more _ _ _ c.loop-finished.invariant.later (later_more _ _ _ c.look.ensures.later c.turn.ensures.later);
      awaited = awaits_turn g.H.Host.turned g.met.H.Host.turns_more g.H.Host.node (λ node. IsPending node c.args.request.now.name c.args.request.now.call) c.args.host.now c.loop-finished.host c.look.new.host c.turn.new.self c.args.turns c.loop-finished.left c.loop-finished.invariant.few some c.loop-finished.invariant.awaited c.look.ensures.no_turn c.look.ensures.later pending c.in_ok-turn.ensures.counted c.turn.ensures.later;
      few = omega (arith, c.loop-finished.invariant.few);
    }

pub returns-then-left-eq0-clause-found : goal.returns-then-left-eq0-clause-found
returns-then-left-eq0-clause-found g c =
    let end : c.loop-finished.left ≡ 0 = grind (arith, c.if-left-eq0.true) in
    let pending : IsPending (g.H.Host.node c.look.new.host) c.args.request.now.name c.args.request.now.call = rw c.in_default.is at c.in_ok-finished.ensures.found in
    (pending, awaits_end g.H.Host.turned g.met.H.Host.turns_more g.H.Host.node (λ node. IsPending node c.args.request.now.name c.args.request.now.call) c.args.host.now c.loop-finished.host c.look.new.host c.args.turns c.loop-finished.left end c.loop-finished.invariant.awaited c.look.ensures.no_turn c.look.ensures.later)

pub returns-in_err-finished-clause-later : goal.returns-in_err-finished-clause-later
returns-in_err-finished-clause-later g c = later_more (g.H.Host.node c.args.host.now) (g.H.Host.node c.loop-finished.host) (g.H.Host.node c.look.new.host) c.loop-finished.invariant.later c.look.ensures.later

pub returns-in-Some-clause-later : goal.returns-in-Some-clause-later
returns-in-Some-clause-later g c = later_more (g.H.Host.node c.args.host.now) (g.H.Host.node c.loop-finished.host) (g.H.Host.node c.look.new.host) c.loop-finished.invariant.later c.look.ensures.later

pub returns-then-left-eq0-clause-later : goal.returns-then-left-eq0-clause-later
returns-then-left-eq0-clause-later g c = later_more (g.H.Host.node c.args.host.now) (g.H.Host.node c.loop-finished.host) (g.H.Host.node c.look.new.host) c.loop-finished.invariant.later c.look.ensures.later

pub returns-in_err-turn-clause-later : goal.returns-in_err-turn-clause-later
returns-in_err-turn-clause-later g c = later_more (g.H.Host.node c.args.host.now) (g.H.Host.node c.look.new.host) (g.H.Host.node c.turn.new.self) (later_more (g.H.Host.node c.args.host.now) (g.H.Host.node c.loop-finished.host) (g.H.Host.node c.look.new.host) c.loop-finished.invariant.later c.look.ensures.later) c.turn.ensures.later

pub loop-finished-init : goal.loop-finished-init
loop-finished-init g c = record { later = later_none (g.H.Host.node c.args.host.now); awaited = awaits_none g.H.Host.turned g.met.H.Host.turns_more g.H.Host.node (λ node. IsPending node c.args.request.now.name c.args.request.now.call) c.args.host.now c.args.turns (g.met.H.Host.turns_none c.args.host.now); few = omega arith }

pub loop-finished-smaller : goal.loop-finished-smaller
loop-finished-smaller g c = let some : 0 < c.loop-finished.left = grind (arith, c.if-left-eq0.false) in omega (arith, some)

pub overflow_sub-left : goal.overflow_sub-left
overflow_sub-left g c = let some : 0 < c.loop-finished.left = grind (arith, c.if-left-eq0.false) in omega (arith, some)

pub returns-in_err-finished-clause-gave_up : goal.returns-in_err-finished-clause-gave_up
returns-in_err-finished-clause-gave_up g c =
    let p = err_from_is_err_and c.from_residual.result c.from_residual.ensures.1 in
    rw (p.1, p.2) (gives_up_look g.H.Host.turned g.met.H.Host.turns_more g.H.Host.node (λ node. IsPending node c.args.request.now.name c.args.request.now.call) g.H.Host.turn_refused (λ node. IsAtHand node c.args.request.now.name c.args.request.now.call) c.args.host.now c.loop-finished.host c.look.new.host c.args.turns c.loop-finished.left c.loop-finished.invariant.awaited c.look.ensures.no_turn c.look.ensures.later c.in_err-finished.ensures.wanting)

pub returns-in_err-turn-clause-gave_up : goal.returns-in_err-turn-clause-gave_up
returns-in_err-turn-clause-gave_up g c =
    let some : 0 < c.loop-finished.left = grind (arith, c.if-left-eq0.false) in
    let pending : IsPending (g.H.Host.node c.look.new.host) c.args.request.now.name c.args.request.now.call = rw c.in_default.is at c.in_ok-finished.ensures.found in
    let p = err_from_is_err_and c.from_residual-in_err-turn.result c.from_residual-in_err-turn.ensures.1 in
    rw (p.1, p.2) (gives_up_turn g.H.Host.turned g.met.H.Host.turns_more g.H.Host.node (λ node. IsPending node c.args.request.now.name c.args.request.now.call) g.H.Host.turn_refused (λ node. IsAtHand node c.args.request.now.name c.args.request.now.call) _ c.args.host.now c.loop-finished.host c.look.new.host c.turn.new.self c.args.turns c.loop-finished.left c.loop-finished.invariant.few some c.loop-finished.invariant.awaited c.look.ensures.no_turn c.look.ensures.later pending c.in_err-turn.ensures.refused)

pub look-requires : goal.look-requires
look-requires g c = record { kept = c.loop-finished.invariant.later.let_go c.args.request.now.name c.args.request.now.call ∙ c.requires.kept }
