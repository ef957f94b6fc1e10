use Rattle.mpx_program.proofs.answering.answer_in_threads.Goals as goal

pub returns-clause-prints : goal.returns-clause-prints
returns-clause-prints g c = c.do_job_in_threads.ensures.prints

pub returns-clause-founded : goal.returns-clause-founded
returns-clause-founded g c = c.do_job_in_threads.ensures.founded
