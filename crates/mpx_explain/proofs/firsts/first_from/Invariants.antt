use Rattle.std.proofs.Common.{◌≡◌, None}
use Rattle.mpx_node.specs.Shown.{node_of}
use Rattle.mpx_explain.specs.RunEnds.{first_lacking}
use Rattle.mpx_explain.proofs.firsts.first_from.Given as goal

abbrev pub invariant-loop-call : goal.invariant-loop-call
invariant-loop-call l = first_lacking l.waiter.run.now (node_of l.waiter.node.now) l.name l.call ≡ None
