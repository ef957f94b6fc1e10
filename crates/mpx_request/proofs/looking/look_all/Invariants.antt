use Rattle.std.proofs.Common.{take, map}
use Rattle.mpx_num.specs.Own.{operation_of}
use Rattle.mpx_request.specs.Harvested.{Harvested}
use Rattle.mpx_request.specs.Later.{Later}
use Rattle.mpx_request.specs.Requests.{AreResults}
use Rattle.mpx_request.proofs.looking.look_all.Given as goal

abbrev pub invariant-loop-request : goal.invariant-loop-request
invariant-loop-request g l = record {
  later : Later (g.H.Host.node l.initial.host) (g.H.Host.node l.host);
  harvested : Harvested (g.H.Host.goes_by l.initial.host (map (λ b. let o = goal.OwnOp-dyn g (b.vtable, b.value) in operation_of (o.word_bytes b.value) (o.fits_type b.value) (o.combination b.value)) l.ops.list.items)) (g.H.Host.node l.initial.host) (g.H.Host.node l.host);
  no_turn : g.H.Host.turned l.initial.host 0 l.host;
  results : AreResults (g.H.Host.node l.host) (take l.request-index l.requests) l.all.items;
}
