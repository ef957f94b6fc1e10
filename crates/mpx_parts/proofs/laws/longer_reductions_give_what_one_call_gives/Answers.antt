use Rattle.mpx_parts.proofs.Meeting.{reduced}
use Rattle.mpx_parts.proofs.laws.longer_reductions_give_what_one_call_gives.Goals as goal

pub returns : goal.returns
returns g c each = reduced each g.T.Item.numbers
