use Rattle.std.proofs.Common.{◌∷◌, arith}
use Rattle.mpx_shared.specs.Turns.{Turn}
use Rattle.mpx_shared.proofs.Gossiping.{sufficed_by}
use Rattle.mpx_shared.proofs.shared.SharedPort.gossip.Goals as goal

pub loop-turn-preserved : goal.loop-turn-preserved
loop-turn-preserved g c =
    let turn : Turn g.L.PortLock.table g.L.PortLock.setup g.L.PortLock.me g.L.PortLock.opening = record { pull = c.pull.result; sufficed = sufficed_by c.pull.result c.in_default.not-OutOfMemory; pulls = c.pull.ensures; push = c.in_ok-put.field-0; puts = c.in_ok-put.ensures } in
    let counted = c.loop-turn.invariant.1 in
    (turn ∷ c.loop-turn.invariant.0, omega (arith, counted))
