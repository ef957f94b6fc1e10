use Rattle.std.proofs.Common.{◌≡◌, true, length, take}
use Rattle.std.specs.List.{list_all}
use Rattle.mpx_birth.specs.Orders.{upto}
use Rattle.mpx_birth.specs.Tallies.{tallies_of}
use Rattle.mpx_birth.specs.Topologies.{tell_alike}
use Rattle.mpx_birth.proofs.pairs.are_paired.Given as goal

abbrev pub invariant-loop-i : goal.invariant-loop-i
invariant-loop-i l = record {
  long : length l.told ≡ 64;
  told : take l.i l.told ≡ tallies_of (take l.i l.ranks);
}

abbrev pub invariant-loop-rank : goal.invariant-loop-rank
invariant-loop-rank l = list_all (λ j. list_all (λ i. tell_alike l.ranks i j) (upto (length l.ranks))) (upto l.rank) ≡ true
