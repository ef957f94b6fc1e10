use Rattle.std.proofs.Common.{◌≡◌, true, false, [], take, length}
use Rattle.std.specs.List.{list_all}
use Rattle.mpx_group.specs.Choice.{is_rank, places}
use Rattle.mpx_group.specs.Picks.{with_ranks}
use Rattle.mpx_group.proofs.groups.Group.incl.Given as goal

abbrev pub invariant-loop-rank : goal.invariant-loop-rank
invariant-loop-rank l = record {
  valid : list_all (is_rank (length l.self)) (take l.rank-index l.ranks) ≡ true;
  picked : l.picks ≡ with_ranks ([], false) (places (take l.rank-index l.ranks));
}
