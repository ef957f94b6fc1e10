use Rattle.std.proofs.Common.{subst}
use Rattle.mpx_program.specs.Jobs.{AsFounded, AsPrinted}
use Rattle.mpx_program.specs.Answers.{AskFor}
use Rattle.mpx_program.proofs.Ending.{if_err, refused_words}
use Rattle.mpx_program.proofs.process.exit_code.Goals as goal

pub returns-in-Ok-clause-answers : goal.returns-in-Ok-clause-answers
returns-in-Ok-clause-answers g c = λ words asks. record {
  exit = c.answer-exit.result;
  does = c.answer-exit.ensures.prints words (subst (AskFor words) c.in-Ok.is asks);
  ends = c.from.ensures;
}

pub returns-in-Ok-clause-founded : goal.returns-in-Ok-clause-founded
returns-in-Ok-clause-founded g c = λ words asks. record {
  exit = c.answer-exit.result;
  does = c.answer-exit.ensures.founded words (subst (AskFor words) c.in-Ok.is asks);
  ends = c.from.ensures;
}

pub returns-in-Err-clause-answers : goal.returns-in-Err-clause-answers
returns-in-Err-clause-answers g c = λ words asks. record {
  exit = c.refuse.result;
  does = refused_words AsPrinted words c.in-Err.why _ _ _ _ (subst (AskFor words) c.in-Err.is asks) c.refuse.ensures;
  ends = c.from-in-Err.ensures;
}

pub returns-in-Err-clause-founded : goal.returns-in-Err-clause-founded
returns-in-Err-clause-founded g c = λ words asks. record {
  exit = c.refuse.result;
  does = refused_words AsFounded words c.in-Err.why _ _ _ _ (subst (AskFor words) c.in-Err.is asks) c.refuse.ensures;
  ends = c.from-in-Err.ensures;
}

pub returns-in-Err-clause-refused : goal.returns-in-Err-clause-refused
returns-in-Err-clause-refused g c =
    if_err c.args.asked.now c.in-Err.why _ c.in-Err.is (record {
      exit = c.refuse.result;
      does = c.refuse.ensures;
      ends = c.from-in-Err.ensures;
    })
