use Rattle.std.proofs.Common.{◌≤◌, sym, arith}
use Rattle.mpx_num.proofs.Codes.{operation_at-own}
use Rattle.mpx_num.proofs.operations.Op.at.Goals as goal

pub returns-then-code-ge16 : goal.returns-then-code-ge16
returns-then-code-ge16 c =
    let own : 16 ≤ c.args.code = omega (arith, c.if-code-ge16.true) in
    sym (operation_at-own c.args.code own)
