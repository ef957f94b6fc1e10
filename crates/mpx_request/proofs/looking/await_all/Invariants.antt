use Rattle.std.proofs.Common.{◌-◌, ◌≤◌}
use Rattle.mpx_request.specs.Later.{Later}
use Rattle.mpx_request.specs.Requests.{OneIsPending}
use Rattle.mpx_request.specs.Turns.{Awaits}
use Rattle.mpx_request.proofs.looking.await_all.Given as goal

abbrev pub invariant-loop-all : goal.invariant-loop-all
invariant-loop-all g l = record {
  later : Later (g.H.Host.node l.initial.host) (g.H.Host.node l.host);
  awaited : Awaits g.H.Host.node g.H.Host.turned (λ node. OneIsPending node l.requests) l.initial.host (l.turns - l.left) l.host;
  few : l.left ≤ l.turns;
}

abbrev pub decreases-loop-all : goal.decreases-loop-all
decreases-loop-all g l = l.left
