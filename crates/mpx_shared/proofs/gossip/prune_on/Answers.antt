use Rattle.std.proofs.Common.{◌≡◌, ℕ, None, Option, Some, subst}
use Rattle.mpx_node.specs.Nodes.{NodeView}
use Rattle.mpx_node.specs.Settling.{IsToDrop}
use Rattle.mpx_shared.proofs.Pruning.{prunes_floor, prunes_none}
use Rattle.mpx_shared.proofs.gossip.prune_on.Goals as goal

pub returns-in_default : goal.returns-in_default
returns-in_default c =
    prunes_none c.args.name.now c.args.port.now (subst (λ (n : NodeView). IsToDrop c.args.name.now n None) c.node.ensures.node c.in_default.ensures)

pub returns : goal.returns
returns c =
    let asked = subst (λ (n : NodeView). IsToDrop c.args.name.now n (Some c.in-Some.number)) c.node.ensures.node c.in-Some.ensures in
    prunes_floor c.args.name.now c.in-Some.number c.prune.result c.args.port.now c.prune.new.self asked c.prune.ensures.answer c.prune.ensures.port c.prune.ensures.still.1 c.prune.ensures.ok c.prune.ensures.err
