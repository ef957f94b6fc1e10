-- Parts of boards obey the laws of joins.
use Rattle.mpx_board.specs.Parts.{parts_laws}
use Rattle.mpx_board.proofs.laws.joining_parts_is_a_semilattice.Goals as goal

pub returns-clause-commutative : goal.returns-clause-commutative
returns-clause-commutative c = parts_laws.commutative

pub returns-clause-associative : goal.returns-clause-associative
returns-clause-associative c = parts_laws.associative

pub returns-clause-idempotent : goal.returns-clause-idempotent
returns-clause-idempotent c = parts_laws.idempotent
