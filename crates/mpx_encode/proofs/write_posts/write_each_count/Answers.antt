use Rattle.std.proofs.Common.{◌≡◌, ◌++◌, refl, rules, get_or}
use Rattle.std.specs.Int.{w16, to_be_bytes}
use Rattle.mpx_format.specs.Posts.{count}
use Rattle.mpx_encode.proofs.Loops.{written_at}
use Rattle.mpx_encode.proofs.write_posts.write_each_count.Goals as goal

pub loop-count-preserved : goal.loop-count-preserved
unfolding count
loop-count-preserved c =
    let x = get_or c.args.counts.now c.loop-count.count-index 0 in
    let added : c.write_u16.new.out ≡ c.loop-count.out ++ to_be_bytes w16 x = search rules in
    written_at count.spelling c.args.counts.now c.loop-count.count-index x 0 c.args.out.now c.loop-count.out c.write_u16.new.out c.loop-count-test.true refl c.loop-count.invariant added
