use Rattle.std.proofs.Common.{◌≡◌, drop, map}
use Rattle.mpx_request.specs.Requests.{close_all}
use Rattle.mpx_request.proofs.some.close_done.Given as goal

abbrev pub invariant-loop-one : goal.invariant-loop-one
invariant-loop-one l = close_all l.set.keys (map (λ d. d.0) (drop l.one-index l.done)) ≡ close_all l.initial.set.keys (map (λ d. d.0) l.done)
