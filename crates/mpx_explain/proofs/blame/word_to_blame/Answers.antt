use Rattle.std.proofs.Common.{Option, subst}
use Rattle.std.specs.Prelude.{IfSome}
use Rattle.mpx_explain.specs.Blame.{IsLineOf}
use Rattle.mpx_explain.specs.declared.blame.Line.{Line}
use Rattle.mpx_explain.proofs.BlamedWords.{blamed_in}
use Rattle.mpx_explain.proofs.blame.word_to_blame.Goals as goal

pub returns-in-Some-2 : goal.returns-in-Some-2
returns-in-Some-2 g c = blamed_in c.blamed_at.result c.args.text.now c.args.refusal.line c.in-Some.line (subst (λ (o : Option Line). IfSome o (λ line. IsLineOf c.args.text.now c.args.refusal.line line)) c.in-Some.is c.in_ok-line.ensures) c.blamed_at.ensures
