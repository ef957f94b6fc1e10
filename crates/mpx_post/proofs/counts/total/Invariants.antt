use Rattle.std.proofs.Common.{◌≡◌, ◌≤◌, ◌*◌, take, sum}
use Rattle.mpx_post.specs.Drafts.{naturals}
use Rattle.mpx_post.specs.Posts.{most_items}
use Rattle.mpx_post.proofs.counts.total.Given as goal

abbrev pub invariant-loop-number : goal.invariant-loop-number
invariant-loop-number l = record {
  value : l.total ≡ sum (naturals (take l.number-index l.numbers));
  small : l.total ≤ l.number-index * most_items;
}
