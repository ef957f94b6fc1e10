use Rattle.mpx_board.specs.Views.{view_of_acks, view_of_numbers}
use Rattle.mpx_digest.proofs.Steps.{KeptSoFar}
use Rattle.mpx_delta.specs.Least.{least_context}
use Rattle.mpx_delta.proofs.least.least.Given as goal

-- the lesser numbers of the contexts so far
abbrev pub invariant-loop-name : goal.invariant-loop-name
invariant-loop-name l = KeptSoFar (least_context (view_of_acks l.others)) view_of_numbers view_of_numbers l.name-items l.made.items l.name-index
