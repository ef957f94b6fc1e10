use Rattle.std.proofs.Common.{◌≡◌, drop}
use Rattle.mpx_explain.specs.Overflows.{is_posted}
use Rattle.mpx_explain.specs.Sums.{posts_in}
use Rattle.mpx_explain.proofs.past.is_posted.Given as goal

abbrev pub invariant-loop-one : goal.invariant-loop-one
invariant-loop-one l = is_posted (posts_in (drop l.one-index l.posts)) l.call ≡ is_posted (posts_in l.posts) l.call
