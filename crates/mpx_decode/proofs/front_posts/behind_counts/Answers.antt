use Rattle.mpx_decode.proofs.FrontPosts.{counts_behind, no_counts}
use Rattle.mpx_decode.proofs.front_posts.behind_counts.Goals as goal

pub returns-then-not-had : goal.returns-then-not-had
returns-then-not-had c = no_counts c.args.had c.args.counts.now c.args.bytes.now c.if-not-had.true c.requires

pub returns-then-len-list : goal.returns-then-len-list
returns-then-len-list c = rw (← c.as_slice-list.ensures.value) (counts_behind c.behind_list.result (λ x. x.now) c.args.had c.as_slice-list.result.now c.args.bytes.now c.in-Ok.rest.now c.in-Ok.len c.if-not-had.false c.in-Ok.ensures.gives c.if-len-list.true c.behind_list.ensures)
