use Rattle.mpx_value.proofs.Within.{children_within}
use Rattle.mpx_value.proofs.laws.children_are_within.Goals as goal

pub returns : goal.returns
returns c = children_within
