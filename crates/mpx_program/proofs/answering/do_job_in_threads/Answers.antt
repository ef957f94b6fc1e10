use Rattle.mpx_program.specs.Jobs.{AsFounded, AsPrinted}
use Rattle.mpx_program.proofs.Ending.{by_own}
use Rattle.mpx_program.proofs.answering.do_job_in_threads.Goals as goal

pub returns-clause-prints : goal.returns-clause-prints
returns-clause-prints g c = by_own AsPrinted _ c.args.call.now _ _ _ _ _ _ c.requires.own c.run_job_in_threads.ensures.prints

pub returns-clause-founded : goal.returns-clause-founded
returns-clause-founded g c = by_own AsFounded _ c.args.call.now _ _ _ _ _ _ c.requires.own c.run_job_in_threads.ensures.founded
