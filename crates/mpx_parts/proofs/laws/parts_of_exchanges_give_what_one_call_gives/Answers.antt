use Rattle.mpx_parts.proofs.Exchanged.{values}
use Rattle.mpx_parts.proofs.laws.parts_of_exchanges_give_what_one_call_gives.Goals as goal

pub returns : goal.returns
returns c = values
