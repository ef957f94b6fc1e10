use Rattle.std.proofs.Common.{sym}
use Rattle.mpx_explain.specs.Sums.{posts_in}
use Rattle.mpx_explain.proofs.FirstCalls.{ok_then}
use Rattle.mpx_explain.proofs.Summing.{none_summed, summed_told}
use Rattle.mpx_explain.proofs.past.push_draft.Goals as goal

pub push_row-requires : goal.push_row-requires
push_row-requires c = record { posted = c.requires.posted; draft = c.requires.draft; reduces = sym c.in-Some.ensures }

pub returns-in-Some : goal.returns-in-Some
returns-in-Some c = ok_then c.push_row.result _ _ (summed_told c.args.script.now.statements (posts_in c.args.posts.now) c.args.call c.args.draft.now c.in-Some.reduction c.args.all.now.items c.push_row.new.all.items c.in-Some.ensures) c.push_row.ensures

pub returns-in-None : goal.returns-in-None
returns-in-None c = none_summed c.args.script.now.statements (posts_in c.args.posts.now) c.args.call c.args.draft.now c.args.all.now.items c.in-None.ensures
