use Rattle.std.proofs.Common.{◌≡◌, false, take}
use Rattle.mpx_threads.specs.ToldCalls.{is_among}
use Rattle.mpx_threads.proofs.told.Told.find.Given as goal

abbrev pub invariant-loop-told : goal.invariant-loop-told
invariant-loop-told g l = is_among (take l.told-index l.told-items) l.name l.call ≡ false
