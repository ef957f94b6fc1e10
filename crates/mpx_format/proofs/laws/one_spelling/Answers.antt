use Rattle.mpx_format.proofs.Decoded.{none_begins, one_each}
use Rattle.mpx_format.proofs.laws.one_spelling.Goals as goal

pub returns-clause-prefix : goal.returns-clause-prefix
returns-clause-prefix c = none_begins

pub returns-clause-value : goal.returns-clause-value
returns-clause-value c = one_each
