use Rattle.std.proofs.Common.{◌≡◌, length}
use Rattle.mpx_birth.specs.Births.{upto}
use Rattle.mpx_birth.proofs.birth.Birth.world.Given as goal

abbrev pub invariant-loop-rank : goal.invariant-loop-rank
invariant-loop-rank l = record { members : l.members.items ≡ upto l.rank; count : length l.members.items ≡ l.rank }
