-- Nothing where as much is said, and else the digest.
use Rattle.std.proofs.Common.{cond, ap, sym, ◌∙◌}
use Rattle.std.proofs.lemmas.Result.{IfOk-weaker}
use Rattle.std.specs.FinMap.{empty}
use Rattle.mpx_board.specs.Views.{view_of_lifted}
use Rattle.mpx_digest.specs.Reach.{digest_lifted}
use Rattle.mpx_digest.proofs.digest.numbers_above.Goals as goal

pub returns-then-says_all : goal.returns-then-says_all
returns-then-says_all c = c.new.ensures ∙ sym (ap (λ b. cond b empty (digest_lifted (view_of_lifted c.args.known.now))) (sym c.says_all.ensures ∙ c.if-says_all.true))

pub returns : goal.returns
returns c = IfOk-weaker c.lifted_digest.result _ _ (λ made is. is ∙ sym (ap (λ b. cond b empty (digest_lifted (view_of_lifted c.args.known.now))) (sym c.says_all.ensures ∙ c.if-says_all.false))) c.lifted_digest.ensures
