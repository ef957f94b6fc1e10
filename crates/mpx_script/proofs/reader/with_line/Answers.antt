use Rattle.std.proofs.Common.{rules}
use Rattle.std.proofs.lemmas.Result.{IfOk-weaker}
use Rattle.mpx_script.specs.Words.{words}
use Rattle.mpx_script.proofs.Settling.{partial_after}
use Rattle.mpx_script.proofs.reader.with_line.Goals as goal

pub returns-in-Some-clause-settled : goal.returns-in-Some-clause-settled
returns-in-Some-clause-settled g c =
    IfOk-weaker c.with_statements.result _ _ (λ after told before settled.
    partial_after _ before c.args.partial after (words c.args.line.now) c.in-Some.script c.in-Further.assignment settled c.in-Some.is (search rules) told.0 told.1 (search rules))
    c.with_statements.ensures.added
