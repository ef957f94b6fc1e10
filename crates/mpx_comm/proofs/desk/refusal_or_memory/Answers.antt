use Rattle.std.proofs.Common.{subst, sym}
use Rattle.mpx_comm.specs.Calls.{IsRefusal}
use Rattle.mpx_comm.proofs.Posting.{refused_or}
use Rattle.mpx_comm.proofs.desk.refusal_or_memory.Goals as goal

pub returns : goal.returns
returns c checked is = subst (IsRefusal checked) (sym c.unwrap_or.ensures) (refused_or c.args.refusal checked is)
