use Rattle.mpx_shared.proofs.Gossiping.{IsHarvesting}
use Rattle.mpx_shared.proofs.gossip.harvest_on.Given as goal

-- so far each turn has stored a result
abbrev pub invariant-loop-call : goal.invariant-loop-call
invariant-loop-call g l = IsHarvesting l.fn.name l._call l.fn.port l.port
