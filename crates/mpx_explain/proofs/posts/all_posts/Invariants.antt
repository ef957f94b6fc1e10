use Rattle.std.proofs.Common.{◌≡◌, map}
use Rattle.std.specs.List.{range_with_len}
use Rattle.mpx_explain.specs.Overflows.{evaluated, posts_of}
use Rattle.mpx_explain.proofs.posts.all_posts.Given as goal

abbrev pub invariant-loop-rank : goal.invariant-loop-rank
invariant-loop-rank l = map (λ posts. posts.items) l.all.items ≡ map (posts_of (evaluated l.script l.found)) (range_with_len 0 l.rank)
