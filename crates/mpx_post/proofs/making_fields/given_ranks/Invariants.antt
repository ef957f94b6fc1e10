use Rattle.std.proofs.Common.{◌≡◌, take}
use Rattle.mpx_post.specs.Drafts.{naturals}
use Rattle.mpx_post.proofs.making_fields.given_ranks.Given as goal

abbrev pub invariant-loop-rank : goal.invariant-loop-rank
invariant-loop-rank l = l.list.items ≡ naturals (take l.rank-index l.group)
