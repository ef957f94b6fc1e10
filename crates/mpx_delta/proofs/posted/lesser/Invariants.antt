use Rattle.std.proofs.Common.{min}
use Rattle.mpx_board.specs.Views.{view_of_numbers}
use Rattle.mpx_digest.specs.Digest.{number_at}
use Rattle.mpx_digest.proofs.Steps.{KeptSoFar}
use Rattle.mpx_delta.specs.Posted.{if_above}
use Rattle.mpx_delta.proofs.posted.lesser.Given as goal

-- the lesser numbers above the call so far
abbrev pub invariant-loop-process : goal.invariant-loop-process
invariant-loop-process l = KeptSoFar (λ p n. if_above l.call (min n (number_at (view_of_numbers l.others) p))) (λ n. n.0) (λ n. n.0) l.process-items l.made.items l.process-index
