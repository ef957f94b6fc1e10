use Rattle.mpx_num.proofs.Spellings.{no_numbers, nothing_kept}
use Rattle.mpx_num.proofs.spelled.Spelled.empty.Goals as goal

pub invariant_of-result : goal.invariant_of-result
invariant_of-result c = nothing_kept c.args.ty _

pub returns : goal.returns
returns c = λ i. record { ty = c.args.ty; nums = no_numbers c.args.ty i }
