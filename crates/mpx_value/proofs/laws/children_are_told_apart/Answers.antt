use Rattle.mpx_value.proofs.NewCommunicators.{children_exact, colours_rise}
use Rattle.mpx_value.proofs.laws.children_are_told_apart.Goals as goal

pub returns : goal.returns
returns c = record { rising = colours_rise; told_apart = children_exact }
