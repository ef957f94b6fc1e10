use Rattle.std.proofs.Common.{◌≡◌, ◌∷◌, ◌++◌, [], length, refl, rules, subst, sym}
use Rattle.mpx_threads.specs.declared.worker.ReadyProcess.{ReadyProcess}
use Rattle.mpx_threads.specs.Work.{AreJobs}
use Rattle.mpx_threads.proofs.Jobs.{one_job_more}
use Rattle.mpx_threads.proofs.run.jobs_of.Goals as goal

pub loop-port-preserved : goal.loop-port-preserved
loop-port-preserved c =
    let new : ReadyProcess = record { me = c.in-Ok.me; port = c.in-Some.port } in
    let me : c.in-Ok.me ≡ length c.loop-port.jobs.items = search rules in
    subst (AreJobs (c.loop-port.yielded ++ c.in-Some.port ∷ [])) (sym c.in_ok-push.ensures.items) (one_job_more c.loop-port.yielded c.loop-port.jobs.items c.in-Some.port new c.loop-port.invariant me refl)
