use Rattle.std.proofs.Common.{sym, ap, ◌∙◌, subst}
use Rattle.mpx_node.specs.Nodes.{NodeView, front_on}
use Rattle.mpx_bus.specs.declared.act.Setup.{Setup}
use Rattle.mpx_shared.proofs.Gossiping.{IsHarvesting, done_then, harvesting_begins, harvesting_more}
use Rattle.mpx_shared.proofs.gossip.harvest_on.Goals as goal

pub loop-call-init : goal.loop-call-init
loop-call-init g c =
    let first = c.front-call.ensures ∙ ap (λ (n : NodeView). front_on n c.args.name.now) c.node.ensures.node in
    subst (λ k. IsHarvesting c.args.name.now k c.args.port.now c.args.port.now) (sym first) (harvesting_begins c.args.name.now c.args.port.now)

pub loop-call-preserved : goal.loop-call-preserved
loop-call-preserved g c =
    harvesting_more c.args.name.now c.loop-call._call c.in_ok-harvest_next.field-0 c.args.port.now c.loop-call.port c.harvest_next.new.port c.loop-call.invariant c.harvest_next.ensures.port c.in_ok-harvest_next.ensures.next c.if-not-branch.false

pub returns-in_err-harvest_next-clause-port : goal.returns-in_err-harvest_next-clause-port
returns-in_err-harvest_next-clause-port g c = done_then c.args.port.now c.loop-call.port c.harvest_next.new.port c.loop-call.invariant.done c.harvest_next.ensures.port

pub returns-then-not-branch-clause-port : goal.returns-then-not-branch-clause-port
returns-then-not-branch-clause-port g c = done_then c.args.port.now c.loop-call.port c.harvest_next.new.port c.loop-call.invariant.done c.harvest_next.ensures.port

pub harvest_next-requires : goal.harvest_next-requires
harvest_next-requires g c = record { list = c.requires.list ∙ ap (λ (s : Setup). s.operations) (sym c.loop-call.invariant.done.no_post.goes.same.setup) }
