use Rattle.std.proofs.Common.{◌≡◌, drop}
use Rattle.std.specs.List.{list_any}
use Rattle.mpx_request.specs.Requests.{has_let_go}
use Rattle.mpx_request.proofs.let_go.one_was_let_go.Given as goal

abbrev pub invariant-loop-request : goal.invariant-loop-request
invariant-loop-request g l = list_any (has_let_go (g.H.Host.node l.host)) (drop l.request-index l.requests) ≡ list_any (has_let_go (g.H.Host.node l.host)) l.requests
