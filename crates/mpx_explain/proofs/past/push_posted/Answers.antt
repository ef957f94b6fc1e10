use Rattle.mpx_explain.specs.Sums.{posts_in}
use Rattle.mpx_explain.proofs.FirstCalls.{ok_then}
use Rattle.mpx_explain.proofs.Summing.{drafted, none_drafted}
use Rattle.mpx_explain.proofs.past.push_posted.Goals as goal

pub returns-in-Some : goal.returns-in-Some
returns-in-Some c = ok_then c.push_draft.result _ _ (drafted c.args.script.now.statements (posts_in c.args.posts.now) c.args.call c.in-Some.draft.now c.args.all.now.items c.push_draft.new.all.items c.requires c.in-Some.ensures) c.push_draft.ensures

pub returns-in-None : goal.returns-in-None
returns-in-None c = none_drafted c.args.script.now.statements (posts_in c.args.posts.now) c.args.call c.args.all.now.items c.requires c.in-None.ensures
