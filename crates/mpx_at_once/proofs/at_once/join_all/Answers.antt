use Rattle.std.proofs.Common.{◌∷◌, ◌++◌, [], subst, sym}
use Rattle.mpx_at_once.specs.Tasks.{AllGive, tasks_of}
use Rattle.mpx_at_once.proofs.Tasks.{one_more_gives}
use Rattle.mpx_at_once.proofs.at_once.join_all.Goals as goal

pub loop-handle-preserved : goal.loop-handle-preserved
loop-handle-preserved g c =
    subst (AllGive g.T.Task.gives (tasks_of (c.loop-handle.yielded ++ c.in-Some.handle ∷ []))) (sym c.in_ok-push.ensures.items)
    (one_more_gives g.T.Task.gives c.loop-handle.yielded c.loop-handle.all.items c.in-Some.handle c.join.result c.loop-handle.invariant c.join.ensures)
