use Rattle.std.proofs.Common.{sym, ◌∙◌}
use Rattle.mpx_eval.specs.Found.{missing_view}
use Rattle.mpx_node.specs.Shown.{node_of}
use Rattle.mpx_explain.proofs.FirstCalls.{first_found, none_below, not_found}
use Rattle.mpx_explain.proofs.firsts.first_from.Goals as goal

pub returns-then-is_some : goal.returns-then-is_some
returns-then-is_some c = first_found c.args.waiter.now.run.now (node_of c.args.waiter.now.node.now) c.args.name.now missing_view c.in_ok-found.found c.loop-call.call c.args.calls (sym c.if-is_some.ensures) c.in_ok-found.ensures c.loop-call.invariant c.loop-call-test.true

pub loop-call-preserved : goal.loop-call-preserved
loop-call-preserved c = not_found c.args.waiter.now.run.now (node_of c.args.waiter.now.node.now) c.args.name.now missing_view c.in_ok-found.found c.loop-call.call (sym c.if-is_some.ensures) c.in_ok-found.ensures c.loop-call.invariant

pub returns : goal.returns
returns c = sym (none_below c.args.waiter.now.run.now (node_of c.args.waiter.now.node.now) c.args.name.now c.loop-call.call c.args.calls c.loop-call-test.false c.loop-call.invariant)
