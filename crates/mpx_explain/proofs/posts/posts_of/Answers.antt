use Rattle.mpx_explain.specs.Overflows.{evaluated, has_posted}
use Rattle.mpx_explain.proofs.Summing.{posts_more}
use Rattle.mpx_explain.proofs.posts.posts_of.Goals as goal

pub loop-place-preserved : goal.loop-place-preserved
loop-place-preserved c = posts_more (has_posted (evaluated c.args.script.now c.args.found.now) c.args.rank) c.loop-place.place c.loop-place.posts.items c.push_post.new.posts.items c.loop-place.invariant c.in_ok-push_post.ensures
