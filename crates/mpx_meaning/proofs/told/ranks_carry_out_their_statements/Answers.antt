use Rattle.mpx_meaning.proofs.Tells.{each-carries_out, each-all, each-me, each-world, each-bound}
use Rattle.mpx_meaning.proofs.told.ranks_carry_out_their_statements.Goals as goal

pub returns-clause-carries_out : goal.returns-clause-carries_out
returns-clause-carries_out c = each-carries_out

pub returns-clause-all : goal.returns-clause-all
returns-clause-all c = each-all

pub returns-clause-me : goal.returns-clause-me
returns-clause-me c = each-me

pub returns-clause-bound : goal.returns-clause-bound
returns-clause-bound c = each-bound

pub returns-clause-world : goal.returns-clause-world
returns-clause-world c = each-world
