use Rattle.std.proofs.Common.{Ok, ap}
use Rattle.mpx_format.specs.Contexts.{held, calls}
use Rattle.mpx_format.proofs.Rows.{from_first}
use Rattle.mpx_format.proofs.Truncs.{trunc_read}
use Rattle.mpx_decode.proofs.contexts.read_held.Goals as goal

pub from_rising-requires-clause-above : goal.from_rising-requires-clause-above
from_rising-requires-clause-above c = from_first c.in_ok-dropped.dropped c.in_ok-calls.calls.items c.in_ok-calls.ensures.rising c.in_ok-calls.ensures.first

pub returns : goal.returns
unfolding held calls
returns c = rw (c.in_ok-dropped.ensures.gives, c.in_ok-count.ensures.gives, c.in_ok-calls.ensures.read) (ap (λ t. Ok (t, c.in_ok-calls.rest.now)) (trunc_read _ c.in_ok-dropped.dropped _ c.from_rising.ensures.dropped c.from_rising.ensures.calls))
