use Rattle.std.proofs.Common.{◌≡◌, drop}
use Rattle.mpx_request.specs.Requests.{close_all}
use Rattle.mpx_request.proofs.looking.close_each.Given as goal

abbrev pub invariant-loop-request : goal.invariant-loop-request
invariant-loop-request l = close_all l.set.keys (drop l.request-index l.requests) ≡ close_all l.initial.set.keys l.requests
