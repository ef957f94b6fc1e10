use Rattle.mpx_threads.proofs.Looking.{Unposted}
use Rattle.mpx_threads.proofs.attempt.Attempt.make.Given as goal

-- nothing was posted so far
abbrev pub invariant-loop-look : goal.invariant-loop-look
invariant-loop-look g l = Unposted g.L.PortLock.setup l.fn.name l.fn.poster.share.amount l.poster.share.amount
