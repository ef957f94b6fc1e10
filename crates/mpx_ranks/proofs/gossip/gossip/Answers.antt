use Rattle.mpx_bus.specs.Ports.{node_in}
use Rattle.mpx_ranks.proofs.Quiet.{heard_more, turn_of}
use Rattle.mpx_ranks.specs.Had.{does_then}
use Rattle.mpx_ranks.specs.Members.{same_then}
use Rattle.mpx_ranks.proofs.gossip.gossip.Goals as goal

pub returns-clause-same : goal.returns-clause-same
returns-clause-same g c = same_then _ _ _ (same_then _ _ _ c.pull-popped.ensures.same c.prune-pruned.ensures.same) c.push-pushed.ensures.same

pub returns-clause-more : goal.returns-clause-more
returns-clause-more g c = does_then _ _ _ (does_then _ _ _ c.pull-popped.ensures.more c.prune-pruned.ensures.more) c.push-pushed.ensures.more

pub returns-clause-heard : goal.returns-clause-heard
returns-clause-heard g c =
    heard_more (node_in c.args.port.now) (node_in c.prune-pruned.new.port) (node_in c.push-pushed.new.port)
    (heard_more (node_in c.args.port.now) (node_in c.pull-popped.new.port) (node_in c.prune-pruned.new.port) c.pull-popped.ensures.heard c.prune-pruned.ensures.heard) c.push-pushed.ensures.heard

pub returns-clause-turns : goal.returns-clause-turns
returns-clause-turns g c =
    (turn_of c.came_to.result c.pull-popped.result c.prune-pruned.result c.push-pushed.result c.args.port.now c.pull-popped.new.port c.prune-pruned.new.port c.push-pushed.new.port
    c.came_to.ensures c.pull-popped.ensures.answer c.pull-popped.ensures.empty c.pull-popped.ensures.kept c.prune-pruned.ensures.prunes c.push-pushed.ensures.pushes).0

pub returns-clause-wanted : goal.returns-clause-wanted
returns-clause-wanted g c =
    (turn_of c.came_to.result c.pull-popped.result c.prune-pruned.result c.push-pushed.result c.args.port.now c.pull-popped.new.port c.prune-pruned.new.port c.push-pushed.new.port
    c.came_to.ensures c.pull-popped.ensures.answer c.pull-popped.ensures.empty c.pull-popped.ensures.kept c.prune-pruned.ensures.prunes c.push-pushed.ensures.pushes).1
