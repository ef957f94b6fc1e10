use Rattle.mpx_parts.proofs.Rows.{values}
use Rattle.mpx_parts.proofs.laws.parts_give_what_one_call_gives.Goals as goal

pub returns : goal.returns
returns c = values
