use Rattle.std.proofs.Common.{length, refl}
use Rattle.mpx_explain.proofs.Telling.{tells_calls}
use Rattle.mpx_explain.proofs.calls.push_calls.Goals as goal

pub returns : goal.returns
returns c = tells_calls c.args.text.now c.args.calls.now c.in_ok-named.named.items c.as_slice.result.now (length c.args.calls.now) c.args.told.now.items c.push_all-pushed.new.told.items c.push_all-pushed.result
    c.in_ok-named.ensures c.as_slice.ensures.value refl c.push_all-pushed.ensures
