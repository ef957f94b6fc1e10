use Rattle.mpx_world.proofs.Openings.{gathers_may, may_gathers, prunes_may, may_prunes}
use Rattle.mpx_world.proofs.laws.what_may_be_opened_and_dropped.Goals as goal

pub returns-clause-gathers : goal.returns-clause-gathers
returns-clause-gathers c node parent tag ranks g = (gathers_may node parent tag ranks g, may_gathers node parent tag ranks g)

pub returns-clause-prunes : goal.returns-clause-prunes
returns-clause-prunes c b name n = (prunes_may b name n, may_prunes b name n)
