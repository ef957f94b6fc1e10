use Rattle.std.proofs.Common.{◌≡◌, map}
use Rattle.mpx_at_once.specs.declared.task.Calling.{Calling}
use Rattle.mpx_at_once.specs.Tasks.{beside}
use Rattle.mpx_at_once.proofs.at_once.calls_of.Given as goal

abbrev pub invariant-loop-job : goal.invariant-loop-job
invariant-loop-job g l = map (λ (t : Calling g.row.F.Denot g.row.J.Denot). beside t.f.now t.job) l.calls.items ≡ map (beside l.f) l.yielded
