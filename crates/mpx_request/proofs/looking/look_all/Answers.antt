use Rattle.std.proofs.Common.{◌≡◌, ◌+◌, ◌++◌, [], ◌∷◌, Some, inl, is_some, take, map, slice_get, refl, sym, ap, ◌∙◌}
use Rattle.std.proofs.lemmas.List.{take_more}
use Rattle.std.proofs.lemmas.Option.{slice_get_read}
use Rattle.mpx_request.specs.Later.{IsPending}
use Rattle.mpx_request.specs.Requests.{OneIsAtHand, result_of}
use Rattle.mpx_request.proofs.Harvesting.{by_first, harvested_none, harvested_then}
use Rattle.mpx_request.specs.Harvested.{Harvested}
use Rattle.mpx_request.proofs.Steps.{if_err, later_none, later_more}
use Rattle.mpx_request.proofs.Many.{results_later, results_more}
use Rattle.mpx_request.proofs.Turns.{and_none}
use Rattle.mpx_request.proofs.looking.look_all.Goals as goal

pub loop-request-preserved : goal.loop-request-preserved
loop-request-preserved g c =
    let found : result_of (g.H.Host.node c.look.new.host) c.request-item.result ≡ Some c.in-Some.finished = rw c.in-Some.is at c.in_ok-finished.ensures.found in
    let more : take (c.loop-request.request-index + 1) c.args.requests.now ≡ take c.loop-request.request-index c.args.requests.now ++ c.request-item.result ∷ [] = take_more c.args.requests.now c.loop-request.request-index c.request-item.result c.loop-request-test.true ∙ ap (λ x. take c.loop-request.request-index c.args.requests.now ++ x ∷ []) (sym c.request-item.is) in
    record {
      later = later_more (g.H.Host.node c.args.host.now) (g.H.Host.node c.loop-request.host) (g.H.Host.node c.look.new.host) c.loop-request.invariant.later c.look.ensures.later;
      harvested = harvested_then _ (g.H.Host.node c.args.host.now) (g.H.Host.node c.loop-request.host) (g.H.Host.node c.look.new.host) c.loop-request.invariant.harvested (by_first g.H.Host.goes_by c.args.host.now c.loop-request.host _ (λ ops. Harvested ops (g.H.Host.node c.loop-request.host) (g.H.Host.node c.look.new.host)) (g.met.H.Host.stays_by _ _ 0 c.loop-request.invariant.no_turn) c.look.ensures.harvested);
      no_turn = and_none g.H.Host.turned g.met.H.Host.turns_more c.args.host.now c.loop-request.host c.look.new.host 0 c.loop-request.invariant.no_turn c.look.ensures.no_turn;
      results = results_more (g.H.Host.node c.look.new.host) _ _ c.loop-request.all.items c.push.new.self.items c.in-Some.finished c.request-item.result (results_later (g.H.Host.node c.loop-request.host) (g.H.Host.node c.look.new.host) (take c.loop-request.request-index c.args.requests.now) c.loop-request.all.items c.look.ensures.later c.loop-request.invariant.results) found more c.in_ok-push-in-Some.ensures.items;
    }

pub returns-in_err-finished-clause-harvested : goal.returns-in_err-finished-clause-harvested
returns-in_err-finished-clause-harvested g c = harvested_then _ (g.H.Host.node c.args.host.now) (g.H.Host.node c.loop-request.host) (g.H.Host.node c.look.new.host) c.loop-request.invariant.harvested (by_first g.H.Host.goes_by c.args.host.now c.loop-request.host _ (λ ops. Harvested ops (g.H.Host.node c.loop-request.host) (g.H.Host.node c.look.new.host)) (g.met.H.Host.stays_by _ _ 0 c.loop-request.invariant.no_turn) c.look.ensures.harvested)

pub returns-in_err-push-in-Some-clause-harvested : goal.returns-in_err-push-in-Some-clause-harvested
returns-in_err-push-in-Some-clause-harvested g c = harvested_then _ (g.H.Host.node c.args.host.now) (g.H.Host.node c.loop-request.host) (g.H.Host.node c.look.new.host) c.loop-request.invariant.harvested (by_first g.H.Host.goes_by c.args.host.now c.loop-request.host _ (λ ops. Harvested ops (g.H.Host.node c.loop-request.host) (g.H.Host.node c.look.new.host)) (g.met.H.Host.stays_by _ _ 0 c.loop-request.invariant.no_turn) c.look.ensures.harvested)

pub returns-in-None-clause-harvested : goal.returns-in-None-clause-harvested
returns-in-None-clause-harvested g c = harvested_then _ (g.H.Host.node c.args.host.now) (g.H.Host.node c.loop-request.host) (g.H.Host.node c.look.new.host) c.loop-request.invariant.harvested (by_first g.H.Host.goes_by c.args.host.now c.loop-request.host _ (λ ops. Harvested ops (g.H.Host.node c.loop-request.host) (g.H.Host.node c.look.new.host)) (g.met.H.Host.stays_by _ _ 0 c.loop-request.invariant.no_turn) c.look.ensures.harvested)

pub loop-request-init : goal.loop-request-init
loop-request-init g c = record { later = later_none _; harvested = harvested_none _ _; no_turn = g.met.H.Host.turns_none c.args.host.now; results = ap (map Some) (sym c.new-all.ensures.items) }

pub returns-in-None-clause-found : goal.returns-in-None-clause-found
returns-in-None-clause-found g c =
    let pending : IsPending (g.H.Host.node c.look.new.host) c.request-item.result.name c.request-item.result.call = rw c.in-None.is at c.in_ok-finished.ensures.found in
    let at : slice_get c.args.requests.now c.loop-request.request-index ≡ Some c.request-item.result = slice_get_read _ _ c.loop-request.request-index _ refl c.loop-request-test.true c.request-item.is in
    (c.loop-request.request-index, c.request-item.result, at, pending)

pub returns-in_err-finished-clause-later : goal.returns-in_err-finished-clause-later
returns-in_err-finished-clause-later g c = later_more (g.H.Host.node c.args.host.now) (g.H.Host.node c.loop-request.host) (g.H.Host.node c.look.new.host) c.loop-request.invariant.later c.look.ensures.later

pub returns-in_err-finished-clause-no_turn : goal.returns-in_err-finished-clause-no_turn
returns-in_err-finished-clause-no_turn g c = and_none g.H.Host.turned g.met.H.Host.turns_more c.args.host.now c.loop-request.host c.look.new.host 0 c.loop-request.invariant.no_turn c.look.ensures.no_turn

pub returns-in_err-push-in-Some-clause-later : goal.returns-in_err-push-in-Some-clause-later
returns-in_err-push-in-Some-clause-later g c = later_more (g.H.Host.node c.args.host.now) (g.H.Host.node c.loop-request.host) (g.H.Host.node c.look.new.host) c.loop-request.invariant.later c.look.ensures.later

pub returns-in_err-push-in-Some-clause-no_turn : goal.returns-in_err-push-in-Some-clause-no_turn
returns-in_err-push-in-Some-clause-no_turn g c = and_none g.H.Host.turned g.met.H.Host.turns_more c.args.host.now c.loop-request.host c.look.new.host 0 c.loop-request.invariant.no_turn c.look.ensures.no_turn

pub returns-in-None-clause-later : goal.returns-in-None-clause-later
returns-in-None-clause-later g c = later_more (g.H.Host.node c.args.host.now) (g.H.Host.node c.loop-request.host) (g.H.Host.node c.look.new.host) c.loop-request.invariant.later c.look.ensures.later

pub returns-in-None-clause-no_turn : goal.returns-in-None-clause-no_turn
returns-in-None-clause-no_turn g c = and_none g.H.Host.turned g.met.H.Host.turns_more c.args.host.now c.loop-request.host c.look.new.host 0 c.loop-request.invariant.no_turn c.look.ensures.no_turn

pub returns-in_err-finished-clause-wanting : goal.returns-in_err-finished-clause-wanting
returns-in_err-finished-clause-wanting g c =
    let at : slice_get c.args.requests.now c.loop-request.request-index ≡ Some c.request-item.result = slice_get_read _ _ c.loop-request.request-index _ refl c.loop-request-test.true c.request-item.is in
    if_err c.from_residual.result (OneIsAtHand (g.H.Host.node c.look.new.host) c.args.requests.now) (c.loop-request.request-index, c.request-item.result, at, c.in_err-finished.ensures.wanting)

pub returns-in_err-push-in-Some-clause-wanting : goal.returns-in_err-push-in-Some-clause-wanting
returns-in_err-push-in-Some-clause-wanting g c =
    let found : result_of (g.H.Host.node c.look.new.host) c.request-item.result ≡ Some c.in-Some.finished = rw c.in-Some.is at c.in_ok-finished.ensures.found in
    let at : slice_get c.args.requests.now c.loop-request.request-index ≡ Some c.request-item.result = slice_get_read _ _ c.loop-request.request-index _ refl c.loop-request-test.true c.request-item.is in
    if_err c.from_residual-in_err-push-in-Some.result (OneIsAtHand (g.H.Host.node c.look.new.host) c.args.requests.now) (c.loop-request.request-index, c.request-item.result, at, inl (ap is_some found))

pub look-requires : goal.look-requires
look-requires g c =
    let at : slice_get c.args.requests.now c.loop-request.request-index ≡ Some c.request-item.result = slice_get_read _ _ c.loop-request.request-index _ refl c.loop-request-test.true c.request-item.is in
    record { kept = c.loop-request.invariant.later.let_go c.request-item.result.name c.request-item.result.call ∙ c.requires.kept c.loop-request.request-index c.request-item.result at }
