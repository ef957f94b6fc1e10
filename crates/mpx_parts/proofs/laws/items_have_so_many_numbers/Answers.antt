use Rattle.mpx_parts.proofs.Numbers.{one_each, two_each}
use Rattle.mpx_parts.proofs.laws.items_have_so_many_numbers.Goals as goal

pub returns-clause-integers : goal.returns-clause-integers
returns-clause-integers g c = one_each g.T.Integer.value

pub returns-clause-pairs : goal.returns-clause-pairs
returns-clause-pairs g c = two_each g.T.Integer.value
