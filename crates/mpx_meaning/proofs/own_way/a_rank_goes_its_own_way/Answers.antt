use Rattle.mpx_meaning.proofs.Going.{goes-adds, goes-carries_out, goes-there, goes-whole}
use Rattle.mpx_meaning.proofs.own_way.a_rank_goes_its_own_way.Goals as goal

pub returns-clause-lines : goal.returns-clause-lines
returns-clause-lines c ops script ranks end e p s g = (goes-adds ops script ranks end e p s g).1

pub returns-clause-posts : goal.returns-clause-posts
returns-clause-posts c ops script ranks end e p s g = (goes-adds ops script ranks end e p s g).0

pub returns-clause-whole : goal.returns-clause-whole
returns-clause-whole c = goes-whole

pub returns-clause-carries_out : goal.returns-clause-carries_out
returns-clause-carries_out c ops script ranks end e p s g = goes-carries_out ops script ranks end p s g

pub returns-clause-bound : goal.returns-clause-bound
returns-clause-bound c ops script ranks end e p s g word name birth f = (goes-there ops script ranks end p s g word name birth f).born
