use Rattle.std.proofs.Common.{sym, ◌∙◌}
use Rattle.mpx_explain.specs.Sums.{posts_in}
use Rattle.mpx_explain.proofs.Summing.{none_posted}
use Rattle.mpx_explain.proofs.past.push_call.Goals as goal

pub returns-else-posted : goal.returns-else-posted
returns-else-posted c = none_posted c.args.script.now.statements (posts_in c.args.posts.now) c.args.call c.args.all.now.items (sym c.is_posted-posted.ensures ∙ c.if-posted.false)
