use Rattle.std.proofs.Common.{◌≡◌, ◌∷◌, [], ◌++◌, rules, sym, subst}
use Rattle.mpx_script.specs.ScriptView.{AreBound}
use Rattle.mpx_script.proofs.rank_statements.RankStatements.push.Goals as goal

pub invariant_of-self : goal.invariant_of-self
invariant_of-self c =
    let pushed : c.push_reserved.new.self.items ≡ c.self.inside.statements.items ++ c.args.statement ∷ [] = search rules in
    subst (λ statements. AreBound c.prepare.new.communicators c.prepare.new.requests statements) (sym pushed) (c.in-Ok.ensures.added c.self.inside.statements.items c.self.invariant)
