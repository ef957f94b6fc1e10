use Rattle.std.proofs.Common.{Ok, ap, subst}
use Rattle.std.specs.Option.{option_copied}
use Rattle.mpx_node.specs.Shown.{node_of}
use Rattle.mpx_statement.specs.Statements.{gathers_of}
use Rattle.mpx_sim.specs.Carrying.{IsContext, context_in}
use Rattle.mpx_sim.proofs.Tried.{tries_on}
use Rattle.mpx_sim.proofs.desk.attempt.Goals as goal

pub returns-in-None : goal.returns-in-None
returns-in-None g c =
    let on = c.in-Some.on.now in
    let old = node_of c.args.desk.now.host in
    let mid = node_of c.gathering_of.new.desk.host in
    let there = subst (λ o. IsContext on (gathers_of c.args.posting.now) (context_in on (Ok o)) old mid) c.in-None.is c.in_ok-gathering_of.ensures in
    tries_on _ c.args.posting.now (option_copied c.args.on) on on (ap option_copied c.in-Some.is) old mid _ (node_of c.post_there.new.desk.host) there c.post_there.ensures

pub returns-in-Some-2 : goal.returns-in-Some-2
returns-in-Some-2 g c =
    let on = c.in-Some.on.now in
    let name = c.in-Some-2.gathering in
    let old = node_of c.args.desk.now.host in
    let mid = node_of c.gathering_of.new.desk.host in
    let there = subst (λ o. IsContext on (gathers_of c.args.posting.now) (context_in on (Ok o)) old mid) c.in-Some-2.is c.in_ok-gathering_of.ensures in
    tries_on _ c.args.posting.now (option_copied c.args.on) on name (ap option_copied c.in-Some.is) old mid _ (node_of c.post_there-in-Some-2.new.desk.host) there c.post_there-in-Some-2.ensures
