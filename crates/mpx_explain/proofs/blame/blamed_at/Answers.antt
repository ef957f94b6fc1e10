use Rattle.std.proofs.Common.{refl, rules}
use Rattle.mpx_explain.proofs.BlamedWords.{blamed}
use Rattle.mpx_explain.proofs.blame.blamed_at.Goals as goal

pub returns-in_ok-word-in-Some : goal.returns-in_ok-word-in-Some
returns-in_ok-word-in-Some c = λ text number is. blamed text number c.args.line.now c.deref.result.now c.args.place c.in-Some.found.now _ is c.deref.ensures.value (search rules) (search rules) refl (search rules)
