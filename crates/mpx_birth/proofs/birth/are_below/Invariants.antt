use Rattle.std.proofs.Common.{◌<◌, take, All}
use Rattle.mpx_birth.proofs.birth.are_below.Given as goal

abbrev pub invariant-loop-member : goal.invariant-loop-member
invariant-loop-member l = All (λ p. p < 64) (take l.member-index l.members)
