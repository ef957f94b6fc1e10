use Rattle.std.proofs.Common.{◌≡◌, drop}
use Rattle.mpx_waiting.specs.ToldLines.{standing}
use Rattle.mpx_waiting.proofs.members.standing.Given as goal

abbrev pub invariant-loop-waiting : goal.invariant-loop-waiting
invariant-loop-waiting l = standing (drop l.waiting-index l.places) l.rank ≡ standing l.places l.rank
