use Rattle.mpx_request.proofs.Harvesting.{harvested_none}
use Rattle.mpx_comm.proofs.desk.Desk.status.Goals as goal

pub returns-then-was_let_go-clause-harvested : goal.returns-then-was_let_go-clause-harvested
returns-then-was_let_go-clause-harvested g c = harvested_none _ _
