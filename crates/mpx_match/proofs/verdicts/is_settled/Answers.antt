use Rattle.std.proofs.Common.{sym, subst}
use Rattle.mpx_match.specs.Alike.{IsSettled}
use Rattle.mpx_match.proofs.verdicts.is_settled.Goals as goal

pub returns-in-Agree : goal.returns-in-Agree
returns-in-Agree c t = subst (λ question. IsSettled question c.args.row.now) (sym c.in-Agree.is) (c.all_agree.ensures t)
