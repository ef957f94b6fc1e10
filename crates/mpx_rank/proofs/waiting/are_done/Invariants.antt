use Rattle.std.proofs.Common.{◌≡◌, true, false, take, map}
use Rattle.std.specs.Prelude.{IsTrue}
use Rattle.mpx_num.specs.Own.{operation_of}
use Rattle.mpx_rank.specs.Moves.{are_done}
use Rattle.mpx_rank.specs.Shown.{requests_of}
use Rattle.mpx_rank.specs.Waits.{WasNotDone}
use Rattle.mpx_rank.proofs.waiting.are_done.Given as goal

abbrev pub invariant-loop-word : goal.invariant-loop-word
invariant-loop-word g l =
    let terms = g.C.Carrier.terms (map (λ b. let o = goal.OwnOp-dyn g (b.vtable, b.value) in operation_of (o.word_bytes b.value) (o.fits_type b.value) (o.combination b.value)) l.ops.list.items) in
    let requests = requests_of g.C.Carrier.place l.requests in
    record {
      hears : terms.hears l.fn.carrier l.carrier;
      done : IsTrue l.all → are_done (terms.tells l.carrier l.me) requests (take l.word-index l.words) ≡ true;
      not_done : l.all ≡ false → WasNotDone terms l.me requests l.words l.fn.carrier l.carrier;
    }
