use Rattle.mpx_value.proofs.NewCommunicators.{new_communicator}
use Rattle.mpx_value.proofs.laws.new_communicators_are_children.Goals as goal

pub returns : goal.returns
returns c = new_communicator
