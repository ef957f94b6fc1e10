use Rattle.std.proofs.Common.{◌≡◌, length}
use Rattle.std.specs.Fork.{GivesJobs}
use Rattle.mpx_at_once.specs.declared.task.Calling.{Calling}
use Rattle.mpx_at_once.specs.Tasks.{AllGive}
use Rattle.mpx_at_once.proofs.Tasks.{accepted, given, given_count, where_ok}
use Rattle.mpx_at_once.proofs.at_once.map_at_once.Goals as goal

pub all_at_once-requires-after_bounds : goal.all_at_once-requires-after_bounds
all_at_once-requires-after_bounds g c κs within = accepted g.F.Fn c.args.f.now c.args.jobs.items c.in_ok-calls.calls.items c.in_ok-calls.ensures c.requires

pub returns-clause-len : goal.returns-clause-len
returns-clause-len g c =
    where_ok (λ all. AllGive (λ (t : Calling g.row.F.Denot g.row.J.Denot) r. g.F.Fn.post t.f.now (t.job, tt) r) c.in_ok-calls.calls.items all.items) (λ all. length all.items ≡ length c.args.jobs.items)
    (λ all gave. given_count g.F.Fn c.args.f.now c.args.jobs.items c.in_ok-calls.calls.items c.in_ok-calls.ensures all.items gave) c.all_at_once.result c.all_at_once.ensures

pub returns-clause-each : goal.returns-clause-each
returns-clause-each g c =
    where_ok (λ all. AllGive (λ (t : Calling g.row.F.Denot g.row.J.Denot) r. g.F.Fn.post t.f.now (t.job, tt) r) c.in_ok-calls.calls.items all.items) (λ all. GivesJobs g.F.Fn c.args.f.now c.args.jobs.items all.items)
    (λ all gave. given g.F.Fn c.args.f.now c.args.jobs.items c.in_ok-calls.calls.items c.in_ok-calls.ensures all.items gave) c.all_at_once.result c.all_at_once.ensures
