use Rattle.std.proofs.Common.{◌≡◌, take, Some}
use Rattle.mpx_post.specs.Rows.{all_of}
use Rattle.mpx_meaning.specs.Ranks.{rank_asked}
use Rattle.mpx_meaning.proofs.asking.ranks_asked.Given as goal

-- those that were asked for till now
abbrev pub invariant-loop-rank : goal.invariant-loop-rank
invariant-loop-rank l = all_of (rank_asked l.size) (take l.rank-index l.ranks) ≡ Some l.asked.items
