use Rattle.std.proofs.Common.{◌≡◌, true, take}
use Rattle.std.specs.List.{list_all}
use Rattle.mpx_post.specs.Drafts.{is_rank, naturals}
use Rattle.mpx_post.proofs.Seen.{Seen}
use Rattle.mpx_post.proofs.making_fields.are_ranks.Given as goal

abbrev pub invariant-loop-rank : goal.invariant-loop-rank
invariant-loop-rank l = record {
  fine : list_all (is_rank l.size) (take l.rank-index l.ranks) ≡ true;
  seen : Seen l.seen (take l.rank-index (naturals l.ranks));
}
