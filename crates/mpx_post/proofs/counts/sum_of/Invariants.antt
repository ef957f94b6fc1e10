use Rattle.std.proofs.Common.{◌≡◌, ◌≤◌, ◌*◌, take, sum}
use Rattle.mpx_post.specs.Posts.{most_items}
use Rattle.mpx_post.proofs.counts.sum_of.Given as goal

abbrev pub invariant-loop-count : goal.invariant-loop-count
invariant-loop-count l = record {
  value : l.total ≡ sum (take l.count-index l.counts);
  small : l.total ≤ l.count-index * most_items;
}
