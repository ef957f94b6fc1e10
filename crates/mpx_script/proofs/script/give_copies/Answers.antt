use Rattle.std.proofs.Common.{◌≡◌, ◌-◌, arith, subst}
use Rattle.mpx_script.specs.ScriptView.{Adds}
use Rattle.mpx_script.proofs.script.give_copies.Goals as goal

pub returns-clause-added : goal.returns-clause-added
returns-clause-added c =
    let last : c.loop-rank.rank ≡ c.args.to - 1 = omega (arith, c.requires.some) in
    subst (λ rank. Adds c.args.from rank c.args.statement.now c.args.statements.now.items c.loop-rank.statements.items) last c.loop-rank.invariant.added
