use Rattle.std.proofs.Common.{subst}
use Rattle.mpx_node.specs.declared.node.Harvest.{Harvest}
use Rattle.join_nest.proofs.Fronts.{on_err}
use Rattle.mpx_shared.specs.Gossip.{PortHarvestsNext}
use Rattle.mpx_shared.proofs.Gossiping.{harvests_one, is_done, next_harvested, wants_next}
use Rattle.mpx_shared.proofs.gossip.harvest_next.Goals as goal

pub returns-in-Done-clause-port : goal.returns-in-Done-clause-port
returns-in-Done-clause-port g c = harvests_one c.args.name.now c.harvest.result c.args.port.now c.harvest.new.self c.harvest.ensures.port c.harvest.ensures.still.1 c.harvest.ensures.journal

pub returns-in-Done-clause-next : goal.returns-in-Done-clause-next
returns-in-Done-clause-next g c =
    subst (λ (h : Harvest). PortHarvestsNext (is_done h) c.args.name.now c.args.port.now c.harvest.new.self) c.in-Done.is
    (next_harvested _ _ c.args.name.now c.args.port.now c.harvest.new.self c.in_ok-harvest.ensures.journal c.in_ok-harvest.ensures.node)

pub returns-in_err-harvest-clause-port : goal.returns-in_err-harvest-clause-port
returns-in_err-harvest-clause-port g c = harvests_one c.args.name.now c.harvest.result c.args.port.now c.harvest.new.self c.harvest.ensures.port c.harvest.ensures.still.1 c.harvest.ensures.journal

pub returns-in-NotYet-clause-port : goal.returns-in-NotYet-clause-port
returns-in-NotYet-clause-port g c = harvests_one c.args.name.now c.harvest.result c.args.port.now c.harvest.new.self c.harvest.ensures.port c.harvest.ensures.still.1 c.harvest.ensures.journal

pub returns-in-NotOpened-clause-port : goal.returns-in-NotOpened-clause-port
returns-in-NotOpened-clause-port g c = harvests_one c.args.name.now c.harvest.result c.args.port.now c.harvest.new.self c.harvest.ensures.port c.harvest.ensures.still.1 c.harvest.ensures.journal

pub returns-in-NotYet-clause-next : goal.returns-in-NotYet-clause-next
returns-in-NotYet-clause-next g c =
    subst (λ (h : Harvest). PortHarvestsNext (is_done h) c.args.name.now c.args.port.now c.harvest.new.self) c.in-NotYet.is
    (next_harvested _ _ c.args.name.now c.args.port.now c.harvest.new.self c.in_ok-harvest.ensures.journal c.in_ok-harvest.ensures.node)

pub returns-in-NotOpened-clause-next : goal.returns-in-NotOpened-clause-next
returns-in-NotOpened-clause-next g c =
    subst (λ (h : Harvest). PortHarvestsNext (is_done h) c.args.name.now c.args.port.now c.harvest.new.self) c.in-NotOpened.is
    (next_harvested _ _ c.args.name.now c.args.port.now c.harvest.new.self c.in_ok-harvest.ensures.journal c.in_ok-harvest.ensures.node)

pub returns-in_err-harvest-clause-err : goal.returns-in_err-harvest-clause-err
returns-in_err-harvest-clause-err g c = on_err _ (wants_next _ c.args.name.now _ c.args.port.now c.harvest.new.self c.in_err-harvest.ensures.node)
