use Rattle.std.proofs.Common.{◌≡◌, true, take, length}
use Rattle.std.specs.List.{list_all}
use Rattle.mpx_post.specs.Drafts.{is_rank}
use Rattle.mpx_post.specs.Gatherings.{members_at}
use Rattle.mpx_post.proofs.Seen.{Seen}
use Rattle.mpx_post.proofs.gathering.is_bad_group.Given as goal

abbrev pub invariant-loop-rank : goal.invariant-loop-rank
invariant-loop-rank l = record {
  fine : list_all (is_rank (length l.members)) (take l.rank-index l.ranks) ≡ true;
  seen : Seen l.seen (take l.rank-index (members_at l.members l.ranks));
}
