use Rattle.std.proofs.Common.{◌-◌, ◌≤◌, map}
use Rattle.mpx_num.specs.Own.{operation_of}
use Rattle.mpx_request.specs.Any.{AwaitsAny}
use Rattle.mpx_request.specs.Later.{Later}
use Rattle.mpx_request.proofs.looking.await_any.Given as goal

abbrev pub invariant-loop-found : goal.invariant-loop-found
invariant-loop-found g l = record {
  later : Later (g.H.Host.node l.initial.host) (g.H.Host.node l.host);
  awaited : AwaitsAny (g.H.Host.goes_by l.initial.host (map (λ b. let o = goal.OwnOp-dyn g (b.vtable, b.value) in operation_of (o.word_bytes b.value) (o.fits_type b.value) (o.combination b.value)) l.ops.list.items)) g.H.Host.node g.H.Host.turned l.requests l.initial.host (l.turns - l.left) l.host;
  few : l.left ≤ l.turns;
}

abbrev pub decreases-loop-found : goal.decreases-loop-found
decreases-loop-found g l = l.left
