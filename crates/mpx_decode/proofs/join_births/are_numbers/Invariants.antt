use Rattle.std.proofs.Common.{◌≡◌, take}
use Rattle.std.specs.Bool.{Decides}
use Rattle.mpx_decode.proofs.join_births.are_numbers.Given as goal

abbrev pub invariant-loop-i : goal.invariant-loop-i
invariant-loop-i l = Decides l.same (take l.i l.members ≡ take l.i l.numbers)
