use Rattle.std.proofs.Common.{take}
use Rattle.mpx_comm.specs.Forgetting.{IsLeastCall}
use Rattle.mpx_comm.proofs.forgetting.least_open.Given as goal

abbrev pub invariant-loop-request : goal.invariant-loop-request
invariant-loop-request l = IsLeastCall l.most l.name (take l.request-index l.requests) l.least
