use Rattle.mpx_bus.specs.declared.act.Act.TheVariants as A
use Rattle.mpx_ranks.proofs.Due.{drops_one}
use Rattle.mpx_ranks.proofs.More.{does_or_not}
use Rattle.mpx_ranks.proofs.Quiet.{heard_prune}
use Rattle.mpx_ranks.proofs.gossip.prune_on.Goals as goal

pub returns-clause-more : goal.returns-clause-more
returns-clause-more c = does_or_not c.prune-pruned.result c.args.port.now c.prune-pruned.new.self (A.Pruned c.args.name.now c.args.number) c.prune-pruned.ensures.ok c.prune-pruned.ensures.err

pub returns-clause-heard : goal.returns-clause-heard
returns-clause-heard c = heard_prune c.prune-pruned.result c.args.name.now c.args.number c.args.port.now c.prune-pruned.new.self c.prune-pruned.ensures.port.same c.prune-pruned.ensures.ok c.prune-pruned.ensures.err

pub returns-clause-drops : goal.returns-clause-drops
returns-clause-drops c = drops_one c.prune-pruned.result c.args.name.now c.args.number c.args.port.now c.prune-pruned.new.self c.prune-pruned.ensures.port.same c.prune-pruned.ensures.still.1 c.requires c.prune-pruned.ensures.answer c.prune-pruned.ensures.ok
