use Rattle.mpx_shared.proofs.Gossiping.{HasSettled}
use Rattle.mpx_shared.proofs.gossip.settle_each.Given as goal

-- so far it has settled the first of them
abbrev pub invariant-loop-name : goal.invariant-loop-name
invariant-loop-name g l = HasSettled l.contexts l.name-index l.fn.port l.port
