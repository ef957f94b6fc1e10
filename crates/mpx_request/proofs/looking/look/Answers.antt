use Rattle.std.proofs.Common.{◌∙◌}
use Rattle.mpx_request.proofs.Harvesting.{by_first, harvested_none, harvested_more}
use Rattle.mpx_request.specs.Harvested.{HarvestsNext}
use Rattle.mpx_request.specs.Later.{IsAtHand}
use Rattle.mpx_request.proofs.Steps.{ahead_of, if_err, later_none, later_more, later_harvest, less_left, pending_harvest, unopened_harvest, wanting_harvest}
use Rattle.mpx_request.proofs.looking.look.Goals as goal

pub returns-in_err-harvest-clause-no_turn : goal.returns-in_err-harvest-clause-no_turn
returns-in_err-harvest-clause-no_turn g c = g.met.H.Host.turns_more _ _ _ 0 0 c.loop-finished.invariant.no_turn c.harvest.ensures.no_turn

pub loop-finished-smaller : goal.loop-finished-smaller
loop-finished-smaller g c = less_left _ (g.H.Host.node c.loop-finished.host) (g.H.Host.node c.harvest.new.self) c.args.request.now.name c.args.request.now.call _ _ c.in-Done.is (ahead_of (g.H.Host.node c.loop-finished.host) c.args.request.now.name c.args.request.now.call c.in_default.ensures (c.loop-finished.invariant.later.let_go c.args.request.now.name c.args.request.now.call ∙ c.requires.kept)) c.in_ok-harvest.ensures.harvests

pub loop-finished-preserved : goal.loop-finished-preserved
loop-finished-preserved g c = record {
  later = later_more _ _ _ c.loop-finished.invariant.later (later_harvest _ _ _ _ _ c.harvest.ensures.harvests);
  harvested = harvested_more _ _ _ _ c.args.request.now.name _ c.loop-finished.invariant.harvested (by_first g.H.Host.goes_by c.args.host.now c.loop-finished.host _ (λ ops. HarvestsNext ops c.args.request.now.name c.harvest.result (g.H.Host.node c.loop-finished.host) (g.H.Host.node c.harvest.new.self)) (g.met.H.Host.stays_by _ _ 0 c.loop-finished.invariant.no_turn) c.harvest.ensures.harvests);
  no_turn = g.met.H.Host.turns_more _ _ _ 0 0 c.loop-finished.invariant.no_turn c.harvest.ensures.no_turn;
}

pub returns-in-NotYet-clause-no_turn : goal.returns-in-NotYet-clause-no_turn
returns-in-NotYet-clause-no_turn g c = g.met.H.Host.turns_more _ _ _ 0 0 c.loop-finished.invariant.no_turn c.harvest.ensures.no_turn

pub returns-in-NotOpened-clause-no_turn : goal.returns-in-NotOpened-clause-no_turn
returns-in-NotOpened-clause-no_turn g c = g.met.H.Host.turns_more _ _ _ 0 0 c.loop-finished.invariant.no_turn c.harvest.ensures.no_turn

pub returns-in_err-harvest-clause-harvested : goal.returns-in_err-harvest-clause-harvested
returns-in_err-harvest-clause-harvested g c = harvested_more _ _ _ _ c.args.request.now.name _ c.loop-finished.invariant.harvested (by_first g.H.Host.goes_by c.args.host.now c.loop-finished.host _ (λ ops. HarvestsNext ops c.args.request.now.name c.harvest.result (g.H.Host.node c.loop-finished.host) (g.H.Host.node c.harvest.new.self)) (g.met.H.Host.stays_by _ _ 0 c.loop-finished.invariant.no_turn) c.harvest.ensures.harvests)

pub returns-in-NotYet-clause-harvested : goal.returns-in-NotYet-clause-harvested
returns-in-NotYet-clause-harvested g c = harvested_more _ _ _ _ c.args.request.now.name _ c.loop-finished.invariant.harvested (by_first g.H.Host.goes_by c.args.host.now c.loop-finished.host _ (λ ops. HarvestsNext ops c.args.request.now.name c.harvest.result (g.H.Host.node c.loop-finished.host) (g.H.Host.node c.harvest.new.self)) (g.met.H.Host.stays_by _ _ 0 c.loop-finished.invariant.no_turn) c.harvest.ensures.harvests)

pub returns-in-NotOpened-clause-harvested : goal.returns-in-NotOpened-clause-harvested
returns-in-NotOpened-clause-harvested g c = harvested_more _ _ _ _ c.args.request.now.name _ c.loop-finished.invariant.harvested (by_first g.H.Host.goes_by c.args.host.now c.loop-finished.host _ (λ ops. HarvestsNext ops c.args.request.now.name c.harvest.result (g.H.Host.node c.loop-finished.host) (g.H.Host.node c.harvest.new.self)) (g.met.H.Host.stays_by _ _ 0 c.loop-finished.invariant.no_turn) c.harvest.ensures.harvests)

pub loop-finished-init : goal.loop-finished-init
loop-finished-init g c = record { later = later_none _; harvested = harvested_none _ _; no_turn = g.met.H.Host.turns_none c.args.host.now }

pub returns-in_err-harvest-clause-later : goal.returns-in_err-harvest-clause-later
returns-in_err-harvest-clause-later g c = later_more _ _ _ c.loop-finished.invariant.later (later_harvest _ _ _ _ _ c.harvest.ensures.harvests)

pub returns-in-NotYet-clause-later : goal.returns-in-NotYet-clause-later
returns-in-NotYet-clause-later g c = later_more _ _ _ c.loop-finished.invariant.later (later_harvest _ _ _ _ _ c.harvest.ensures.harvests)

pub returns-in-NotOpened-clause-later : goal.returns-in-NotOpened-clause-later
returns-in-NotOpened-clause-later g c = later_more _ _ _ c.loop-finished.invariant.later (later_harvest _ _ _ _ _ c.harvest.ensures.harvests)

pub returns-in-NotYet-clause-found : goal.returns-in-NotYet-clause-found
returns-in-NotYet-clause-found g c = pending_harvest _ (g.H.Host.node c.loop-finished.host) (g.H.Host.node c.harvest.new.self) c.args.request.now.name c.args.request.now.call _ c.in-NotYet.is (ahead_of (g.H.Host.node c.loop-finished.host) c.args.request.now.name c.args.request.now.call c.in_default.ensures (c.loop-finished.invariant.later.let_go c.args.request.now.name c.args.request.now.call ∙ c.requires.kept)) c.in_ok-harvest.ensures.harvests

pub returns-in-NotOpened-clause-found : goal.returns-in-NotOpened-clause-found
returns-in-NotOpened-clause-found g c = unopened_harvest _ (g.H.Host.node c.loop-finished.host) (g.H.Host.node c.harvest.new.self) c.args.request.now.name c.args.request.now.call _ c.in-NotOpened.is (ahead_of (g.H.Host.node c.loop-finished.host) c.args.request.now.name c.args.request.now.call c.in_default.ensures (c.loop-finished.invariant.later.let_go c.args.request.now.name c.args.request.now.call ∙ c.requires.kept)) c.in_ok-harvest.ensures.harvests

pub returns-in_err-harvest-clause-wanting : goal.returns-in_err-harvest-clause-wanting
returns-in_err-harvest-clause-wanting g c =
    if_err _ (IsAtHand (g.H.Host.node c.harvest.new.self) c.args.request.now.name c.args.request.now.call)
    (wanting_harvest _ (g.H.Host.node c.loop-finished.host) (g.H.Host.node c.harvest.new.self) c.args.request.now.name _ c.args.request.now.call (ahead_of (g.H.Host.node c.loop-finished.host) c.args.request.now.name c.args.request.now.call c.in_default.ensures (c.loop-finished.invariant.later.let_go c.args.request.now.name c.args.request.now.call ∙ c.requires.kept)) c.in_err-harvest.ensures.harvests)
