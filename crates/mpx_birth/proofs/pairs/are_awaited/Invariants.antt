use Rattle.std.proofs.Common.{◌≡◌, true}
use Rattle.std.specs.List.{list_all}
use Rattle.mpx_birth.specs.Orders.{upto}
use Rattle.mpx_birth.specs.Topologies.{tell_alike}
use Rattle.mpx_birth.proofs.pairs.are_awaited.Given as goal

abbrev pub invariant-loop-i : goal.invariant-loop-i
invariant-loop-i l = list_all (λ i. tell_alike l.ranks i l.rank) (upto l.i) ≡ true
