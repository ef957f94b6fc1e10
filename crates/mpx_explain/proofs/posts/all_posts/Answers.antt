use Rattle.mpx_explain.specs.Overflows.{evaluated, posts_of}
use Rattle.mpx_explain.proofs.Summing.{all_more}
use Rattle.mpx_explain.proofs.posts.all_posts.Goals as goal

pub loop-rank-preserved : goal.loop-rank-preserved
loop-rank-preserved c = all_more (posts_of (evaluated c.args.script.now c.args.found.now)) c.loop-rank.rank c.loop-rank.all.items c.push.new.self.items c.in_ok-posts_of.field-0 c.loop-rank.invariant c.in_ok-posts_of.ensures c.in_ok-push.ensures.items
