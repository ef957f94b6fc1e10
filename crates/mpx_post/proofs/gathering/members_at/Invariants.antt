use Rattle.std.proofs.Common.{◌≡◌, take}
use Rattle.mpx_post.specs.Gatherings.{members_at}
use Rattle.mpx_post.proofs.gathering.members_at.Given as goal

abbrev pub invariant-loop-rank : goal.invariant-loop-rank
invariant-loop-rank l = l.list.items ≡ members_at l.members (take l.rank-index l.ranks)
