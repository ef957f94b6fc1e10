use Rattle.std.proofs.Common.{◌≤◌, sym, arith}
use Rattle.mpx_num.proofs.Codes.{type_at-last}
use Rattle.mpx_num.proofs.types.Ty.at.Goals as goal

pub returns-then-code-ge10 : goal.returns-then-code-ge10
returns-then-code-ge10 c = let past : 10 ≤ c.args.code = omega (arith, c.if-code-ge10.true) in sym (type_at-last c.args.code past)
