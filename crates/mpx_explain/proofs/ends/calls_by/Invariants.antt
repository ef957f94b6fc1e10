use Rattle.std.proofs.Common.{◌≡◌, ◌++◌, [], drop, map}
use Rattle.std.specs.List.{flat_map}
use Rattle.mpx_node.specs.Shown.{node_of}
use Rattle.mpx_meaning.specs.Ends.{asked_view}
use Rattle.mpx_eval.specs.Found.{missing_view}
use Rattle.mpx_explain.specs.Firsts.{HasLooked}
use Rattle.mpx_explain.specs.RunEnds.{first_view, lacking_of, with_firsts}
use Rattle.mpx_explain.proofs.ends.calls_by.Given as goal

abbrev pub invariant-loop-one : goal.invariant-loop-one
invariant-loop-one l = record {
  calls : map missing_view l.calls.items ++ flat_map (lacking_of l.waiter.run.now (node_of l.waiter.node.now)) (map asked_view (drop l.one-index l.asked)) ≡ flat_map (lacking_of l.waiter.run.now (node_of l.waiter.node.now)) (map asked_view l.asked);
  looked : HasLooked l.waiter.run.now (node_of l.waiter.node.now) (map first_view l.found.told.items) l.found.looked;
  firsts : with_firsts l.waiter.run.now (node_of l.waiter.node.now) (l.waiter.rank, l.waiter.statement) (map first_view l.found.told.items) (map asked_view (drop l.one-index l.asked)) ≡ with_firsts l.waiter.run.now (node_of l.waiter.node.now) (l.waiter.rank, l.waiter.statement) [] (map asked_view l.asked);
}
