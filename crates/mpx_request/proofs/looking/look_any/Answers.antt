use Rattle.std.proofs.Common.{◌≡◌, Some, slice_get, refl, ◌∙◌, arith}
use Rattle.std.proofs.lemmas.Option.{slice_get_read}
use Rattle.mpx_request.specs.Later.{IsPending}
use Rattle.mpx_request.specs.Requests.{OneIsAtHand, result_of}
use Rattle.mpx_request.proofs.Harvesting.{by_first, harvested_none, harvested_then}
use Rattle.mpx_request.specs.Harvested.{Harvested}
use Rattle.mpx_request.proofs.Steps.{if_err, later_none, later_more}
use Rattle.mpx_request.proofs.Many.{were_later, were_more}
use Rattle.mpx_request.proofs.Turns.{and_none}
use Rattle.mpx_request.proofs.looking.look_any.Goals as goal

pub returns-in_err-finished-clause-no_turn : goal.returns-in_err-finished-clause-no_turn
returns-in_err-finished-clause-no_turn g c = and_none g.H.Host.turned g.met.H.Host.turns_more c.args.host.now c.loop-place.host c.look.new.host 0 c.loop-place.invariant.no_turn c.look.ensures.no_turn

pub returns-in-Some-clause-no_turn : goal.returns-in-Some-clause-no_turn
returns-in-Some-clause-no_turn g c = and_none g.H.Host.turned g.met.H.Host.turns_more c.args.host.now c.loop-place.host c.look.new.host 0 c.loop-place.invariant.no_turn c.look.ensures.no_turn

pub returns-in-Some-clause-found : goal.returns-in-Some-clause-found
returns-in-Some-clause-found g c =
    let found : result_of (g.H.Host.node c.look.new.host) c.index-requests-place.result ≡ Some c.in-Some.finished = rw c.in-Some.is at c.in_ok-finished.ensures.found in
    let at : slice_get c.args.requests.now c.loop-place.place ≡ Some c.index-requests-place.result = slice_get_read _ _ c.loop-place.place _ refl c.loop-place-test.true c.index-requests-place.is in
    (were_later _ (g.H.Host.node c.args.host.now) (g.H.Host.node c.loop-place.host) (g.H.Host.node c.look.new.host) c.loop-place.place c.args.requests.now c.loop-place.invariant.pending (record { later = c.look.ensures.later; harvests = (by_first g.H.Host.goes_by c.args.host.now c.loop-place.host _ (λ ops. Harvested ops (g.H.Host.node c.loop-place.host) (g.H.Host.node c.look.new.host)) (g.met.H.Host.stays_by _ _ 0 c.loop-place.invariant.no_turn) c.look.ensures.harvested) }), (c.index-requests-place.result, at, found))

pub loop-place-preserved : goal.loop-place-preserved
loop-place-preserved g c =
    let pending : IsPending (g.H.Host.node c.look.new.host) c.index-requests-place.result.name c.index-requests-place.result.call = rw c.in_default.is at c.in_ok-finished.ensures.found in
    let at : slice_get c.args.requests.now c.loop-place.place ≡ Some c.index-requests-place.result = slice_get_read _ _ c.loop-place.place _ refl c.loop-place-test.true c.index-requests-place.is in
    let later = later_more (g.H.Host.node c.args.host.now) (g.H.Host.node c.loop-place.host) (g.H.Host.node c.look.new.host) c.loop-place.invariant.later c.look.ensures.later in
    let harvested = harvested_then _ (g.H.Host.node c.args.host.now) (g.H.Host.node c.loop-place.host) (g.H.Host.node c.look.new.host) c.loop-place.invariant.harvested (by_first g.H.Host.goes_by c.args.host.now c.loop-place.host _ (λ ops. Harvested ops (g.H.Host.node c.loop-place.host) (g.H.Host.node c.look.new.host)) (g.met.H.Host.stays_by _ _ 0 c.loop-place.invariant.no_turn) c.look.ensures.harvested) in
    record {
      later = later;
      harvested = harvested;
      no_turn = and_none g.H.Host.turned g.met.H.Host.turns_more c.args.host.now c.loop-place.host c.look.new.host 0 c.loop-place.invariant.no_turn c.look.ensures.no_turn;
      pending = were_more _ (g.H.Host.node c.args.host.now) (g.H.Host.node c.look.new.host) c.loop-place.place c.args.requests.now c.index-requests-place.result (were_later _ (g.H.Host.node c.args.host.now) (g.H.Host.node c.loop-place.host) (g.H.Host.node c.look.new.host) c.loop-place.place c.args.requests.now c.loop-place.invariant.pending (record { later = c.look.ensures.later; harvests = (by_first g.H.Host.goes_by c.args.host.now c.loop-place.host _ (λ ops. Harvested ops (g.H.Host.node c.loop-place.host) (g.H.Host.node c.look.new.host)) (g.met.H.Host.stays_by _ _ 0 c.loop-place.invariant.no_turn) c.look.ensures.harvested) })) (record { later = later; harvests = harvested }) at pending;
    }

pub returns-in_err-finished-clause-harvested : goal.returns-in_err-finished-clause-harvested
returns-in_err-finished-clause-harvested g c = harvested_then _ (g.H.Host.node c.args.host.now) (g.H.Host.node c.loop-place.host) (g.H.Host.node c.look.new.host) c.loop-place.invariant.harvested (by_first g.H.Host.goes_by c.args.host.now c.loop-place.host _ (λ ops. Harvested ops (g.H.Host.node c.loop-place.host) (g.H.Host.node c.look.new.host)) (g.met.H.Host.stays_by _ _ 0 c.loop-place.invariant.no_turn) c.look.ensures.harvested)

pub returns-in-Some-clause-harvested : goal.returns-in-Some-clause-harvested
returns-in-Some-clause-harvested g c = harvested_then _ (g.H.Host.node c.args.host.now) (g.H.Host.node c.loop-place.host) (g.H.Host.node c.look.new.host) c.loop-place.invariant.harvested (by_first g.H.Host.goes_by c.args.host.now c.loop-place.host _ (λ ops. Harvested ops (g.H.Host.node c.loop-place.host) (g.H.Host.node c.look.new.host)) (g.met.H.Host.stays_by _ _ 0 c.loop-place.invariant.no_turn) c.look.ensures.harvested)

pub loop-place-init : goal.loop-place-init
loop-place-init g c = record { later = later_none _; harvested = harvested_none _ _; no_turn = g.met.H.Host.turns_none c.args.host.now; pending = λ i request l. absurd (omega (arith, l)) }

pub returns-in_err-finished-clause-later : goal.returns-in_err-finished-clause-later
returns-in_err-finished-clause-later g c = later_more (g.H.Host.node c.args.host.now) (g.H.Host.node c.loop-place.host) (g.H.Host.node c.look.new.host) c.loop-place.invariant.later c.look.ensures.later

pub returns-in-Some-clause-later : goal.returns-in-Some-clause-later
returns-in-Some-clause-later g c = later_more (g.H.Host.node c.args.host.now) (g.H.Host.node c.loop-place.host) (g.H.Host.node c.look.new.host) c.loop-place.invariant.later c.look.ensures.later

pub returns-in_err-finished-clause-wanting : goal.returns-in_err-finished-clause-wanting
returns-in_err-finished-clause-wanting g c =
    let at : slice_get c.args.requests.now c.loop-place.place ≡ Some c.index-requests-place.result = slice_get_read _ _ c.loop-place.place _ refl c.loop-place-test.true c.index-requests-place.is in
    if_err c.from_residual.result (OneIsAtHand (g.H.Host.node c.look.new.host) c.args.requests.now) (c.loop-place.place, c.index-requests-place.result, at, c.in_err-finished.ensures.wanting)

pub look-requires : goal.look-requires
look-requires g c =
    let at : slice_get c.args.requests.now c.loop-place.place ≡ Some c.index-requests-place.result = slice_get_read _ _ c.loop-place.place _ refl c.loop-place-test.true c.index-requests-place.is in
    record { kept = c.loop-place.invariant.later.let_go c.index-requests-place.result.name c.index-requests-place.result.call ∙ c.requires.kept c.loop-place.place c.index-requests-place.result at }
