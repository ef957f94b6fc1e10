use Rattle.process_tests.proofs.had.RemembersProgram.run.Goals as goal

-- what it had had by the first sum it has had by the second
pub returns : goal.returns
returns g c = c.sum_of-last.ensures.stays _ _ _ c.in-Some.ensures.had
