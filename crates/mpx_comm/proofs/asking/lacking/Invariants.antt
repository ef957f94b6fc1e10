use Rattle.std.proofs.Common.{◌≡◌, slice_index}
use Rattle.std.specs.List.{filter}
use Rattle.mpx_birth.specs.Births.{upto}
use Rattle.mpx_board.specs.Looks.{look}
use Rattle.mpx_comm.specs.Asking.{lacks_post}
use Rattle.mpx_comm.proofs.asking.lacking.Given as goal

abbrev pub invariant-loop-rank : goal.invariant-loop-rank
invariant-loop-rank l = l.ranks.items ≡ filter (λ rank. lacks_post ((look l.board).contexts l.name) l.call (slice_index l.members rank)) (upto l.rank)
