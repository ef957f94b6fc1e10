use Rattle.mpx_meaning.proofs.Ahead.{confluent}
use Rattle.mpx_meaning.proofs.evaluation.evaluations_are_one.Goals as goal

pub returns : goal.returns
returns c = confluent
