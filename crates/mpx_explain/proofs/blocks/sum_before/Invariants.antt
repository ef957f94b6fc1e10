use Rattle.std.proofs.Common.{◌≡◌, ◌*◌, ◌≤◌, sum, take}
use Rattle.mpx_post.specs.Drafts.{naturals}
use Rattle.mpx_post.specs.Posts.{most_items}
use Rattle.mpx_explain.proofs.blocks.sum_before.Given as goal

abbrev pub invariant-loop-before : goal.invariant-loop-before
invariant-loop-before l = record {
  value : l.sum ≡ sum (take l.before (naturals l.counts));
  small : l.sum ≤ l.before * most_items;
}
