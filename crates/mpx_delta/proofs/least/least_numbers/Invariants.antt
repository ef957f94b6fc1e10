use Rattle.mpx_board.specs.Views.{view_of_numbers}
use Rattle.mpx_digest.proofs.Steps.{KeptSoFar}
use Rattle.mpx_delta.specs.Least.{least_number}
use Rattle.mpx_delta.proofs.least.least_numbers.Given as goal

-- the lesser numbers so far
abbrev pub invariant-loop-process : goal.invariant-loop-process
invariant-loop-process l = KeptSoFar (least_number (view_of_numbers l.others)) (λ n. n.0) (λ n. n.0) l.process-items l.made.items l.process-index
