use Rattle.std.proofs.Common.{ap, map, sym, ◌∙◌}
use Rattle.std.specs.Option.{option_map}
use Rattle.mpx_eval.specs.Found.{missing_view}
use Rattle.mpx_meaning.specs.Ends.{asked_view}
use Rattle.mpx_node.specs.Shown.{node_of}
use Rattle.mpx_explain.specs.RunEnds.{first_view}
use Rattle.mpx_explain.proofs.FirstCalls.{first_at_lacking, first_at_other, none_lacking, ok_so, ok_then}
use Rattle.mpx_explain.proofs.ends.push_call.Goals as goal

pub returns-in_ok-push-in-Some-clause-firsts : goal.returns-in_ok-push-in-Some-clause-firsts
returns-in_ok-push-in-Some-clause-firsts c =
    first_at_lacking c.args.waiter.now.run.now (node_of c.args.waiter.now.node.now) (c.args.waiter.now.rank, c.args.waiter.now.statement) (map first_view c.args.firsts.now.told.items) (asked_view c.args.asked.now) (missing_view c.in-Some.call)
    (sym c.in_ok-found.ensures ∙ ap (option_map missing_view) c.in-Some.is)

pub returns-in-None-clause-calls : goal.returns-in-None-clause-calls
returns-in-None-clause-calls c =
    ok_so c.push_before.result _ (none_lacking c.args.waiter.now.run.now (node_of c.args.waiter.now.node.now) (asked_view c.args.asked.now) (map missing_view c.args.calls.now.items) (sym c.in_ok-found.ensures ∙ ap (option_map missing_view) c.in-None.is))

pub returns-in-None-clause-firsts : goal.returns-in-None-clause-firsts
returns-in-None-clause-firsts c =
    ok_then c.push_before.result _ _
    (first_at_other c.args.waiter.now.run.now (node_of c.args.waiter.now.node.now) (c.args.waiter.now.rank, c.args.waiter.now.statement) (map first_view c.args.firsts.now.told.items) (map first_view c.push_before.new.firsts.told.items) (asked_view c.args.asked.now)
    (sym c.in_ok-found.ensures ∙ ap (option_map missing_view) c.in-None.is))
    c.push_before.ensures.told
