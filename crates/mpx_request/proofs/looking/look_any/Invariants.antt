use Rattle.std.proofs.Common.{map}
use Rattle.mpx_num.specs.Own.{operation_of}
use Rattle.mpx_request.specs.Harvested.{Harvested}
use Rattle.mpx_request.specs.Later.{Later}
use Rattle.mpx_request.specs.Requests.{WerePending}
use Rattle.mpx_request.proofs.looking.look_any.Given as goal

abbrev pub invariant-loop-place : goal.invariant-loop-place
invariant-loop-place g l = record {
  later : Later (g.H.Host.node l.initial.host) (g.H.Host.node l.host);
  harvested : Harvested (g.H.Host.goes_by l.initial.host (map (λ b. let o = goal.OwnOp-dyn g (b.vtable, b.value) in operation_of (o.word_bytes b.value) (o.fits_type b.value) (o.combination b.value)) l.ops.list.items)) (g.H.Host.node l.initial.host) (g.H.Host.node l.host);
  no_turn : g.H.Host.turned l.initial.host 0 l.host;
  pending : WerePending (g.H.Host.goes_by l.initial.host (map (λ b. let o = goal.OwnOp-dyn g (b.vtable, b.value) in operation_of (o.word_bytes b.value) (o.fits_type b.value) (o.combination b.value)) l.ops.list.items)) (g.H.Host.node l.initial.host) (g.H.Host.node l.host) l.place l.requests;
}
