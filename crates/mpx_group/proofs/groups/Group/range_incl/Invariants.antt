use Rattle.std.proofs.Common.{◌≡◌, true, false, [], take, length}
use Rattle.std.specs.List.{list_all}
use Rattle.mpx_group.specs.Choice.{is_rank, places, ranks_of}
use Rattle.mpx_group.specs.Picks.{with_ranks}
use Rattle.mpx_group.proofs.groups.Group.range_incl.Given as goal

abbrev pub invariant-loop-triplet : goal.invariant-loop-triplet
invariant-loop-triplet l = record {
  valid : list_all (is_rank (length l.self)) (ranks_of (take l.triplet-index l.triplets)) ≡ true;
  picked : l.picks ≡ with_ranks ([], false) (places (ranks_of (take l.triplet-index l.triplets)));
}
