use Rattle.std.proofs.Common.{Ok, Some, inr, refl, subst}
use Rattle.mpx_bus.specs.Ports.{node_in}
use Rattle.mpx_name.specs.Name.{Name}
use Rattle.mpx_node.specs.Nodes.{NodeView}
use Rattle.mpx_node.specs.Settling.{HasDropped, IsToDrop}
use Rattle.mpx_node.specs.Shown.{node_of}
use Rattle.mpx_ranks.proofs.Due.{prunes_err}
use Rattle.mpx_ranks.proofs.Quiet.{heard_none}
use Rattle.mpx_ranks.specs.Had.{does_nothing}
use Rattle.mpx_ranks.specs.Members.{FindsOne, HasNoneToDrop, same_itself}
use Rattle.mpx_ranks.proofs.gossip.prune.Goals as goal

pub returns-in_default-clause-same : goal.returns-in_default-clause-same
returns-in_default-clause-same c = same_itself c.args.port.now

pub returns-in_default-clause-more : goal.returns-in_default-clause-more
returns-in_default-clause-more c = does_nothing c.args.port.now c.args.port.now refl

pub returns-in_default-clause-heard : goal.returns-in_default-clause-heard
returns-in_default-clause-heard c = heard_none (node_in c.args.port.now)

pub returns-in_default-clause-prunes : goal.returns-in_default-clause-prunes
returns-in_default-clause-prunes c = inr (refl, subst HasNoneToDrop c.node.ensures.node (subst (λ o. FindsOne (Ok o) (node_of c.node.result.now)) c.in_default.is c.in_ok-name.ensures))

pub returns-in_err-name-clause-same : goal.returns-in_err-name-clause-same
returns-in_err-name-clause-same c = same_itself c.args.port.now

pub returns-in_err-name-clause-more : goal.returns-in_err-name-clause-more
returns-in_err-name-clause-more c = does_nothing c.args.port.now c.args.port.now refl

pub returns-in_err-name-clause-heard : goal.returns-in_err-name-clause-heard
returns-in_err-name-clause-heard c = heard_none (node_in c.args.port.now)

pub returns-in_err-name-clause-prunes : goal.returns-in_err-name-clause-prunes
returns-in_err-name-clause-prunes c =
    prunes_err c.from_residual.result c.args.port.now c.from_residual.ensures.0
    (subst (λ (n : NodeView). (name : Name) × ¬ (HasDropped name n)) c.node.ensures.node (subst (λ r. FindsOne r (node_of c.node.result.now)) c.in_err-name.was c.first_to_drop.ensures))

pub prune_on-requires : goal.prune_on-requires
prune_on-requires c =
    subst (λ (n : NodeView). IsToDrop c.in-Some.name n (Some c.in-Some.number)) c.node.ensures.node (subst (λ o. FindsOne (Ok o) (node_of c.node.result.now)) c.in-Some.is c.in_ok-name.ensures)
