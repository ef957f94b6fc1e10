use Rattle.mpx_parts.proofs.Meeting.{exchanged}
use Rattle.mpx_parts.proofs.laws.longer_exchanges_give_what_one_call_gives.Goals as goal

pub returns : goal.returns
returns g c = exchanged g.T.Item.numbers
