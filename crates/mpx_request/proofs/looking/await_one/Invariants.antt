use Rattle.std.proofs.Common.{◌-◌, ◌≤◌}
use Rattle.mpx_request.specs.Later.{Later, IsPending}
use Rattle.mpx_request.specs.Turns.{Awaits}
use Rattle.mpx_request.proofs.looking.await_one.Given as goal

abbrev pub invariant-loop-finished : goal.invariant-loop-finished
invariant-loop-finished g l = record {
  later : Later (g.H.Host.node l.initial.host) (g.H.Host.node l.host);
  awaited : Awaits g.H.Host.node g.H.Host.turned (λ node. IsPending node l.request.name l.request.call) l.initial.host (l.turns - l.left) l.host;
  few : l.left ≤ l.turns;
}

abbrev pub decreases-loop-finished : goal.decreases-loop-finished
decreases-loop-finished g l = l.left
