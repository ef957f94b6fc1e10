use Rattle.std.proofs.Common.{◌≡◌, ◌<◌, ◌≤◌, ap, arith, length}
use Rattle.mpx_explain.specs.Overflows.{is_posted}
use Rattle.mpx_explain.specs.Sums.{posts_in}
use Rattle.mpx_explain.proofs.Summing.{posted_all, posted_less, posted_more}
use Rattle.mpx_explain.proofs.past.is_posted.Goals as goal

pub returns-then-many-call : goal.returns-then-many-call
returns-then-many-call c =
    let less : length c.one-item.result.items ≤ c.args.call = omega (arith, ap length c.as_slice-many.ensures.value) in
    posted_less c.args.posts.now c.loop-one.one-index c.args.call c.one-item.result (is_posted (posts_in c.args.posts.now) c.args.call) c.loop-one-test.true c.one-item.is less c.loop-one.invariant

pub loop-one-preserved : goal.loop-one-preserved
loop-one-preserved c =
    let more : c.args.call < length c.one-item.result.items = omega (arith, ap length c.as_slice-many.ensures.value) in
    posted_more c.args.posts.now c.loop-one.one-index c.args.call c.one-item.result (is_posted (posts_in c.args.posts.now) c.args.call) c.loop-one-test.true c.one-item.is more c.loop-one.invariant

pub returns : goal.returns
returns c = posted_all c.args.posts.now c.loop-one.one-index c.args.call (is_posted (posts_in c.args.posts.now) c.args.call) c.loop-one-test.false c.loop-one.invariant
