use Rattle.std.proofs.Common.{◌≡◌, take}
use Rattle.mpx_post.specs.Drafts.{naturals}
use Rattle.mpx_post.proofs.counts.Counts.new.Given as goal

abbrev pub invariant-loop-number : goal.invariant-loop-number
invariant-loop-number l = l.list.items ≡ naturals (take l.number-index l.numbers)
