use Rattle.std.proofs.Common.{◌∙◌, ◌++◌, List, ap, drop, map}
use Rattle.mpx_eval.specs.Found.{missing_view}
use Rattle.std.specs.List.{flat_map}
use Rattle.mpx_meaning.specs.Ends.{asked_view}
use Rattle.mpx_node.specs.Shown.{node_of}
use Rattle.mpx_explain.specs.RunEnds.{first_view, lacking_of}
use Rattle.mpx_explain.proofs.FirstCalls.{firsts_all, firsts_more, looked_none, with_none_told}
use Rattle.mpx_explain.proofs.FoundEnds.{flat_more}
use Rattle.mpx_explain.proofs.ends.calls_by.Goals as goal

pub loop-one-init : goal.loop-one-init
loop-one-init c = record {
  calls = ap (λ xs. map missing_view xs ++ flat_map (lacking_of c.args.waiter.now.run.now (node_of c.args.waiter.now.node.now)) (map asked_view c.args.asked.now)) c.new-calls.ensures.items;
  looked = looked_none c.args.waiter.now.run.now (node_of c.args.waiter.now.node.now) (map first_view c.new.result.items) c.new-2.result (ap (map first_view) c.new.ensures.items) c.new-2.ensures.empty;
  firsts = with_none_told c.args.waiter.now.run.now (node_of c.args.waiter.now.node.now) (c.args.waiter.now.rank, c.args.waiter.now.statement) (map first_view c.new.result.items) (map asked_view c.args.asked.now) (ap (map first_view) c.new.ensures.items);
}

pub loop-one-preserved : goal.loop-one-preserved
loop-one-preserved c =
    let run = c.args.waiter.now.run.now in
    let node = node_of c.args.waiter.now.node.now in
    let was = c.loop-one.invariant in
    let did = c.in_ok-push_call.ensures in
    record {
      calls = flat_more (lacking_of run node) asked_view c.args.asked.now c.loop-one.one-index c.one-item.result (map missing_view c.loop-one.calls.items) (map missing_view c.push_call.new.calls.items) _ c.loop-one-test.true c.one-item.is did.calls was.calls;
      looked = did.looked;
      firsts = firsts_more run node (c.args.waiter.now.rank, c.args.waiter.now.statement) c.args.asked.now c.loop-one.one-index c.one-item.result (map first_view c.loop-one.found.told.items) (map first_view c.push_call.new.firsts.told.items) _ c.loop-one-test.true c.one-item.is did.firsts was.firsts;
    }

pub returns-clause-firsts : goal.returns-clause-firsts
returns-clause-firsts c =
    firsts_all c.args.waiter.now.run.now (node_of c.args.waiter.now.node.now) (c.args.waiter.now.rank, c.args.waiter.now.statement) c.args.asked.now c.loop-one.one-index c.loop-one.found.told.items c.args.firsts.now.items c.append.new.self.items _
    c.loop-one-test.false c.requires c.in_ok-append.ensures.items c.loop-one.invariant.firsts
