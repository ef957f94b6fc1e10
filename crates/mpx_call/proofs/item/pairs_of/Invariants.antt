use Rattle.std.proofs.Common.{◌≡◌, ◌*◌, take}
use Rattle.mpx_call.specs.Pairs.{both_numbers}
use Rattle.mpx_call.proofs.item.pairs_of.Given as goal

abbrev pub invariant-loop-i : goal.invariant-loop-i
invariant-loop-i g l = both_numbers l.pairs.items ≡ take (2 * l.i) l.both
