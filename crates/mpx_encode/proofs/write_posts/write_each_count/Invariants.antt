use Rattle.std.proofs.Common.{◌≡◌, ◌++◌, take}
use Rattle.std.specs.List.{flat_map}
use Rattle.mpx_format.specs.Posts.{count}
use Rattle.mpx_encode.proofs.write_posts.write_each_count.Given as goal

abbrev pub invariant-loop-count : goal.invariant-loop-count
invariant-loop-count l = l.out ≡ l.fn.out ++ flat_map count.spelling (take l.count-index l.counts)
