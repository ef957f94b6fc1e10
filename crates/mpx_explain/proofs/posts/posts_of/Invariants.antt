use Rattle.std.proofs.Common.{◌≡◌}
use Rattle.std.specs.List.{filter, range_with_len}
use Rattle.mpx_explain.specs.Overflows.{evaluated, has_posted}
use Rattle.mpx_explain.proofs.posts.posts_of.Given as goal

abbrev pub invariant-loop-place : goal.invariant-loop-place
invariant-loop-place l = l.posts.items ≡ filter (has_posted (evaluated l.script l.found) l.rank) (range_with_len 0 l.place)
