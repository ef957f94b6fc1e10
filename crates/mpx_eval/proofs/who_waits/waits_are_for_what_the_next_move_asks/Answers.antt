use Rattle.mpx_eval.proofs.Waits.{asks_so}
use Rattle.mpx_eval.proofs.who_waits.waits_are_for_what_the_next_move_asks.Goals as goal

pub returns : goal.returns
returns c = asks_so
