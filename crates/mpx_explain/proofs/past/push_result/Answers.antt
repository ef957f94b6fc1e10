use Rattle.mpx_explain.specs.Overflows.{past_number, post_to}
use Rattle.mpx_explain.specs.Sums.{posts_in, statements_in}
use Rattle.mpx_explain.proofs.Summing.{none_placed}
use Rattle.mpx_explain.proofs.past.push_result.Goals as goal

pub push_past-requires-clause-post : goal.push_past-requires-clause-post
push_past-requires-clause-post c = c.in-Some.ensures

pub returns-in-None : goal.returns-in-None
returns-in-None c =
    let row = c.args.row.now in
    none_placed c.args.rank row.draft.now.ty (past_number (statements_in row) (posts_in row.posts.now) row.call row.draft.now row.reduction c.args.rank) (post_to (posts_in row.posts.now) row.call c.args.rank) c.args.all.now.items c.in-None.ensures
