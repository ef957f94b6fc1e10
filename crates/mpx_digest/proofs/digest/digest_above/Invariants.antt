use Rattle.mpx_board.specs.Views.{view_of_acks, view_of_lifted, view_of_numbers}
use Rattle.mpx_digest.specs.Keep.{unless_bare}
use Rattle.mpx_digest.specs.Beyond.{numbers_above}
use Rattle.mpx_digest.proofs.Steps.{KeptSoFar}
use Rattle.mpx_digest.proofs.digest.digest_above.Given as goal

-- the numbers of the contexts so far
abbrev pub invariant-loop-name : goal.invariant-loop-name
invariant-loop-name l = KeptSoFar (λ name known. unless_bare (numbers_above (view_of_acks l.said) name known)) view_of_lifted view_of_numbers l.name-items l.made.items l.name-index
