use Rattle.mpx_at_once.specs.Tasks.{AllGive, tasks_of}
use Rattle.mpx_at_once.proofs.at_once.join_all.Given as goal

abbrev pub invariant-loop-handle : goal.invariant-loop-handle
invariant-loop-handle g l = AllGive g.T.Task.gives (tasks_of l.yielded) l.all.items
