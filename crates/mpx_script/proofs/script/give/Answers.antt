use Rattle.std.proofs.Common.{◌≤◌, ◌-◌, arith, rules, length}
use Rattle.std.proofs.lemmas.Result.{on_ok_weaker}
use Rattle.mpx_script.proofs.Added.{adds_all}
use Rattle.mpx_script.proofs.script.give.Goals as goal

pub returns-in-Ok-clause-added : goal.returns-in-Ok-clause-added
returns-in-Ok-clause-added c =
    let within : c.args.assignment.to ≤ length c.args.statements.now.items = search rules in
    on_ok_weaker c.push_to.result (λ pushed. adds_all c.args.assignment.from (c.args.assignment.to - 1) c.args.assignment.to c.args.assignment.statement c.args.statements.now.items c.give_copies.new.statements.items c.push_to.new.statements.items c.requires.some within (omega (arith, c.requires.some)) (omega (arith, c.requires.some)) (omega (arith, c.requires.some)) c.in-Ok.ensures.added pushed) c.push_to.ensures.pushed
