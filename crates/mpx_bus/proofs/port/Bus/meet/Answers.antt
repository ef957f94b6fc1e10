use Rattle.std.proofs.Common.{sym, ap, ◌∙◌, subst}
use Rattle.mpx_bus.specs.declared.act.View.{View}
use Rattle.mpx_bus.specs.Rule.{StandsForOneWorld}
use Rattle.mpx_bus.specs.Ports.{PortView, HaveMet}
use Rattle.crossbeam_queue.specs.Passes.{view}
use Rattle.mpx_bus.specs.Views.{seat_of}
use Rattle.mpx_bus.specs.Finished.{TellsFronts}
use Rattle.mpx_bus.proofs.Fronts.{tells_at}
use Rattle.mpx_bus.proofs.Meets.{merges, learns, have_met, one_stands}
use Rattle.mpx_bus.proofs.port.Bus.meet.Goals as goal

pub absorb-requires-clause-rule : goal.absorb-requires-clause-rule
absorb-requires-clause-rule c = merges _ _ _ _ (one_stands _ c.first.invariant.2.stands) c.second.invariant.2.stands

pub learn_as-requires-clause-rule : goal.learn_as-requires-clause-rule
learn_as-requires-clause-rule c = learns _ _ (ap (λ (u : View). u.named) c.absorb.ensures.rule)

pub returns-clause-history : goal.returns-clause-history
returns-clause-history c =
    subst (λ (z : PortView × PortView). HaveMet z.0 z.1) (λ i. (c.first.view_is i, c.second.view_is i))
    (have_met _ _ _ _ _ _ _ _ _ _ _ _ (ap (λ (b : PortView). b.setup) c.second.view_is ∙ c.requires.setup ∙ sym (ap (λ (b : PortView). b.setup) c.first.view_is))
    c.first.invariant.2 c.second.invariant.2 (subst StandsForOneWorld c.absorb.ensures.rule c.learn_as.ensures.rule.1))

pub both_finished-both-requires : goal.both_finished-both-requires
both_finished-both-requires c = subst TellsFronts (sym c.first.invariant.2.node_is) (tells_at (view c.first.inside.pass).setup (seat_of (view c.first.inside.pass)).me (view c.first.inside.line))
