use Rattle.mpx_parts.proofs.OneCall.{is_fine}
use Rattle.mpx_parts.proofs.laws.one_call_is_fine_where_a_part_is.Goals as goal

pub returns : goal.returns
returns c = is_fine
