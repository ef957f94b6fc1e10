use Rattle.std.proofs.Common.{◌≡◌, List, length}
use Rattle.mpx_shared.specs.Turns.{Turn}
use Rattle.mpx_shared.proofs.shared.SharedPort.gossip.Given as goal

-- so many turns were made
abbrev pub invariant-loop-turn : goal.invariant-loop-turn
invariant-loop-turn g l = (made : List (Turn g.L.PortLock.table g.L.PortLock.setup g.L.PortLock.me g.L.PortLock.opening)) × (length made ≡ l._turn)
