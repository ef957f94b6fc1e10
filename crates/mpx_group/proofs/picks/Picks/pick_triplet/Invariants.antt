use Rattle.std.proofs.Common.{◌≡◌, false, ◌-ℤ◌}
use Rattle.std.specs.Prelude.{unsigned_abs}
use Rattle.std.specs.List.{list_all}
use Rattle.mpx_group.specs.Triplet.{is_past, triplet_ranks}
use Rattle.mpx_group.specs.Choice.{is_rank, places}
use Rattle.mpx_group.specs.Picks.{with_ranks}
use Rattle.mpx_group.proofs.Strides.{rest}
use Rattle.mpx_group.proofs.picks.Picks.pick_triplet.Given as goal

abbrev pub invariant-ranks : goal.invariant-ranks
invariant-ranks l = record {
  within : is_past l.triplet l.rank ≡ false;
  valid : list_all (is_rank l.size) (rest l.triplet l.rank) ≡ list_all (is_rank l.size) (triplet_ranks l.triplet);
  picked : with_ranks l.self (places (rest l.triplet l.rank)) ≡ with_ranks l.initial.self (places (triplet_ranks l.triplet));
}

abbrev pub decreases-ranks : goal.decreases-ranks
decreases-ranks l = unsigned_abs (l.triplet.last -ℤ l.rank)
