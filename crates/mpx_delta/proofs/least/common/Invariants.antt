use Rattle.std.proofs.Common.{◌≡◌, ℕ, true}
use Rattle.mpx_name.specs.Name.{Name}
use Rattle.mpx_board.specs.Looks.{look}
use Rattle.mpx_board.specs.Tidy.{are_tidy_numbers}
use Rattle.mpx_board.specs.Views.{view_of_acks}
use Rattle.mpx_digest.specs.Digest.{numbers_acked}
use Rattle.mpx_delta.specs.Digests.{common_on}
use Rattle.mpx_delta.proofs.least.common.Given as goal

-- the least of the processes so far
abbrev pub invariant-loop-number : goal.invariant-loop-number
invariant-loop-number l = ((name : Name) (p : ℕ) → numbers_acked (view_of_acks l.made) name p ≡ common_on l.number (look l.board) name p) × (are_tidy_numbers (view_of_acks l.made) ≡ true)
