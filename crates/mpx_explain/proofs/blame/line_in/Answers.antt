use Rattle.std.proofs.Common.{◌≡◌, ◌≤◌, ℕ, List, Option, Vec, Global, length, rules, subst, sym, ◌∙◌}
use Rattle.std.specs.Borrow.{Bor}
use Rattle.std.specs.Prelude.{IfSome}
use Rattle.mpx_script.specs.Words.{words}
use Rattle.mpx_explain.specs.Blame.{words_told}
use Rattle.mpx_explain.proofs.BlamedWords.{words_there}
use Rattle.mpx_explain.proofs.blame.line_in.Goals as goal

pub returns-in-Some-2 : goal.returns-in-Some-2
returns-in-Some-2 c =
    let are = subst (λ (o : Option (Vec (Bor (List ℕ)) Global)). IfSome o (λ some. (length some.items ≤ 64) × (words_told some.items ≡ words c.in-Some.line.now))) c.in-Some-2.is c.in_ok-words.ensures in
    record {
      few = are.0;
      words = are.1 ∙ words_there c.args.text.now c.in-Ok.seen.now c.in-Some.line.now c.args.number (search rules) (sym c.in-Some.ensures);
    }
