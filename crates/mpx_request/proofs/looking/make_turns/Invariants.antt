use Rattle.std.proofs.Common.{◌≡◌, ◌-◌, ◌≤◌}
use Rattle.mpx_request.specs.Later.{Later}
use Rattle.mpx_request.proofs.looking.make_turns.Given as goal

abbrev pub invariant-loop-left : goal.invariant-loop-left
invariant-loop-left g l = record {
  later : Later (g.H.Host.node l.initial.host) (g.H.Host.node l.host);
  opened : (g.H.Host.node l.host).opened ≡ (g.H.Host.node l.initial.host).opened;
  turned : g.H.Host.turned l.initial.host (l.turns - l.left) l.host;
  few : l.left ≤ l.turns;
}

abbrev pub decreases-loop-left : goal.decreases-loop-left
decreases-loop-left g l = l.left
