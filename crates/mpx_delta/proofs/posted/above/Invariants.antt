use Rattle.mpx_digest.proofs.Steps.{KeptSoFar}
use Rattle.mpx_delta.specs.Posted.{if_above}
use Rattle.mpx_delta.proofs.posted.above.Given as goal

-- the numbers above the call so far
abbrev pub invariant-loop-process : goal.invariant-loop-process
invariant-loop-process l = KeptSoFar (λ p n. if_above l.call n) (λ n. n.0) (λ n. n.0) l.process-items l.made.items l.process-index
