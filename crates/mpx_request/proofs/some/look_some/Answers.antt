use Rattle.std.proofs.Common.{◌≡◌, ◌+◌, ◌++◌, [], ◌∷◌, Some, take, slice_get, refl, sym, ap, ◌∙◌}
use Rattle.std.proofs.lemmas.List.{take_more}
use Rattle.std.proofs.lemmas.Option.{slice_get_read}
use Rattle.mpx_request.specs.Harvested.{Harvested}
use Rattle.mpx_request.specs.Requests.{OneIsAtHand}
use Rattle.mpx_request.proofs.Harvesting.{by_first, harvested_none, harvested_then}
use Rattle.mpx_request.proofs.Picks.{picks_more}
use Rattle.mpx_request.proofs.Steps.{if_err, later_none, later_more}
use Rattle.mpx_request.proofs.Turns.{and_none}
use Rattle.mpx_request.proofs.some.look_some.Goals as goal

pub loop-request-init : goal.loop-request-init
loop-request-init g c = record { later = later_none _; harvested = harvested_none _ _; no_turn = g.met.H.Host.turns_none c.args.host.now; picks = c.new-done.ensures.items }

pub loop-request-preserved : goal.loop-request-preserved
loop-request-preserved g c =
    let a = g.H.Host.node c.args.host.now in
    let b = g.H.Host.node c.loop-request.host in
    let new = g.H.Host.node c.add_if_done.new.host in
    let more : take (c.loop-request.request-index + 1) c.args.requests.now ≡ take c.loop-request.request-index c.args.requests.now ++ c.request-item.result ∷ [] = take_more c.args.requests.now c.loop-request.request-index c.request-item.result c.loop-request-test.true ∙ ap (λ x. take c.loop-request.request-index c.args.requests.now ++ x ∷ []) (sym c.request-item.is) in
    let step = by_first g.H.Host.goes_by c.args.host.now c.loop-request.host _ (λ ops. Harvested ops b new) (g.met.H.Host.stays_by _ _ 0 c.loop-request.invariant.no_turn) c.add_if_done.ensures.harvested in
    let later = later_more a b new c.loop-request.invariant.later c.add_if_done.ensures.later in
    let harvested = harvested_then _ a b new c.loop-request.invariant.harvested step in
    record {
      later = later;
      harvested = harvested;
      no_turn = and_none g.H.Host.turned g.met.H.Host.turns_more c.args.host.now c.loop-request.host c.add_if_done.new.host 0 c.loop-request.invariant.no_turn c.add_if_done.ensures.no_turn;
      picks = picks_more _ a b new (take c.loop-request.request-index c.args.requests.now) _ c.loop-request.done.items c.add_if_done.new.done.items c.request-item.result c.loop-request.invariant.picks (record { later = c.add_if_done.ensures.later; harvests = step }) (record { later = later; harvests = harvested }) c.in_ok-add_if_done.ensures.added more;
    }

pub returns-in_err-add_if_done-clause-later : goal.returns-in_err-add_if_done-clause-later
returns-in_err-add_if_done-clause-later g c = later_more (g.H.Host.node c.args.host.now) (g.H.Host.node c.loop-request.host) (g.H.Host.node c.add_if_done.new.host) c.loop-request.invariant.later c.add_if_done.ensures.later

pub returns-in_err-add_if_done-clause-harvested : goal.returns-in_err-add_if_done-clause-harvested
returns-in_err-add_if_done-clause-harvested g c = harvested_then _ (g.H.Host.node c.args.host.now) (g.H.Host.node c.loop-request.host) (g.H.Host.node c.add_if_done.new.host) c.loop-request.invariant.harvested (by_first g.H.Host.goes_by c.args.host.now c.loop-request.host _ (λ ops. Harvested ops (g.H.Host.node c.loop-request.host) (g.H.Host.node c.add_if_done.new.host)) (g.met.H.Host.stays_by _ _ 0 c.loop-request.invariant.no_turn) c.add_if_done.ensures.harvested)

pub returns-in_err-add_if_done-clause-no_turn : goal.returns-in_err-add_if_done-clause-no_turn
returns-in_err-add_if_done-clause-no_turn g c = and_none g.H.Host.turned g.met.H.Host.turns_more c.args.host.now c.loop-request.host c.add_if_done.new.host 0 c.loop-request.invariant.no_turn c.add_if_done.ensures.no_turn

pub returns-in_err-add_if_done-clause-wanting : goal.returns-in_err-add_if_done-clause-wanting
returns-in_err-add_if_done-clause-wanting g c =
    let at : slice_get c.args.requests.now c.loop-request.request-index ≡ Some c.request-item.result = slice_get_read _ _ c.loop-request.request-index _ refl c.loop-request-test.true c.request-item.is in
    if_err c.from_residual.result (OneIsAtHand (g.H.Host.node c.add_if_done.new.host) c.args.requests.now) (c.loop-request.request-index, c.request-item.result, at, c.in_err-add_if_done.ensures.wanting)

pub add_if_done-requires : goal.add_if_done-requires
add_if_done-requires g c =
    let at : slice_get c.args.requests.now c.loop-request.request-index ≡ Some c.request-item.result = slice_get_read _ _ c.loop-request.request-index _ refl c.loop-request-test.true c.request-item.is in
    record { kept = c.loop-request.invariant.later.let_go c.request-item.result.name c.request-item.result.call ∙ c.requires.kept c.loop-request.request-index c.request-item.result at }
