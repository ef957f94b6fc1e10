use Rattle.std.proofs.Common.{sym, subst}
use Rattle.mpx_match.specs.declared.faults.FaultKind.TheVariants.{Edges}
use Rattle.mpx_match.specs.declared.verdicts.RowQuestion.TheVariants.{Agree}
use Rattle.mpx_match.specs.Alike.{IsSettled}
use Rattle.mpx_match.proofs.Alike.{alike_settled}
use Rattle.mpx_match.proofs.verdicts.all_agree.Goals as goal

pub returns-then-alike : goal.returns-then-alike
returns-then-alike c t = subst (λ what. IsSettled (Agree what) c.args.row.now) (sym c.in-Edges.is) (alike_settled c.args.row.now (c.requires t) Edges (λ e. absurd cc))

pub returns-in_default : goal.returns-in_default
returns-in_default c t = alike_settled c.args.row.now (c.requires t) c.args.what c.in_default.not-Amount
