use Rattle.std.proofs.Common.{◌≡◌}
use Rattle.mpx_at_once.specs.Tasks.{tasks_of}
use Rattle.mpx_at_once.proofs.at_once.start_all.Given as goal

abbrev pub invariant-loop-task : goal.invariant-loop-task
invariant-loop-task g l = tasks_of l.handles.items ≡ l.yielded
