use Rattle.mpx_meaning.proofs.Ends.{eval_of}
use Rattle.mpx_meaning.proofs.evaluation.every_script_has_an_evaluation.Goals as goal

pub returns : goal.returns
returns c = eval_of
