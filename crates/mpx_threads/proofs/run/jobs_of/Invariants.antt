use Rattle.mpx_threads.specs.Work.{AreJobs}
use Rattle.mpx_threads.proofs.run.jobs_of.Given as goal

abbrev pub invariant-loop-port : goal.invariant-loop-port
invariant-loop-port l = AreJobs l.yielded l.jobs.items
