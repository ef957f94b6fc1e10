use Rattle.std.proofs.Common.{◌≡◌, take}
use Rattle.mpx_call.specs.Pairs.{both_numbers}
use Rattle.mpx_call.proofs.item.both_of.Given as goal

abbrev pub invariant-loop-pair : goal.invariant-loop-pair
invariant-loop-pair g l = l.both.items ≡ both_numbers (take l.pair-index l.pairs)
