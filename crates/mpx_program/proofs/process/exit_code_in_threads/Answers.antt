use Rattle.std.proofs.Common.{subst}
use Rattle.mpx_program.specs.Answers.{AskFor}
use Rattle.mpx_program.proofs.process.exit_code_in_threads.Goals as goal

pub returns-clause-answers : goal.returns-clause-answers
returns-clause-answers g c = λ words asks. record {
  exit = c.answer_in_threads-exit.result;
  does = c.answer_in_threads-exit.ensures.prints words (subst (AskFor words) c.in-Ok.is asks);
  ends = c.from.ensures;
}

pub returns-clause-founded : goal.returns-clause-founded
returns-clause-founded g c = λ words asks. record {
  exit = c.answer_in_threads-exit.result;
  does = c.answer_in_threads-exit.ensures.founded words (subst (AskFor words) c.in-Ok.is asks);
  ends = c.from.ensures;
}
