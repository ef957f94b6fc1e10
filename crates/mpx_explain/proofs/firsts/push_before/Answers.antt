use Rattle.std.proofs.Common.{map, ◌∙◌}
use Rattle.mpx_node.specs.Shown.{node_of}
use Rattle.mpx_explain.specs.RunEnds.{first_lacking, first_view, is_told_on}
use Rattle.mpx_explain.proofs.FirstCalls.{nothing_before, ok_then, something_before}
use Rattle.mpx_explain.proofs.firsts.push_before.Goals as goal

pub upto-requires : goal.upto-requires
upto-requires c = c.requires.none c.args.asked.now.name

pub returns-in-Some-clause-told : goal.returns-in-Some-clause-told
returns-in-Some-clause-told c =
    let asked = c.args.asked.now in
    let told = map first_view c.args.firsts.now.told.items in
    ok_then c.push_from.result _ _ (something_before (c.args.waiter.now.rank, c.args.waiter.now.statement) told (map first_view c.push_from.new.firsts.told.items) (is_told_on asked.name told) (first_lacking c.args.waiter.now.run.now (node_of c.args.waiter.now.node.now) asked.name asked.call) (c.requires.told asked.name ∙ c.in-Some.ensures.0)) c.push_from.ensures.told

pub returns-in-None-clause-told : goal.returns-in-None-clause-told
returns-in-None-clause-told c =
    let asked = c.args.asked.now in
    let told = map first_view c.args.firsts.now.told.items in
    nothing_before (c.args.waiter.now.rank, c.args.waiter.now.statement) told (is_told_on asked.name told) (first_lacking c.args.waiter.now.run.now (node_of c.args.waiter.now.node.now) asked.name asked.call) (c.requires.told asked.name ∙ c.in-None.ensures)
