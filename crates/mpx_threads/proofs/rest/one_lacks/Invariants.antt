use Rattle.std.proofs.Common.{◌≡◌, ◌<◌, ℕ, None, Some}
use Rattle.std.specs.Prelude.{slice_get}
use Rattle.mpx_board.specs.Boards.{told}
use Rattle.mpx_board.specs.Looks.{look}
use Rattle.mpx_threads.proofs.rest.one_lacks.Given as goal

abbrev pub invariant-loop-i : goal.invariant-loop-i
invariant-loop-i l = (place member : ℕ) → place < l.i → slice_get l.members place ≡ Some member → told (((look l.board).contexts l.name).posts l.call member) ≡ None → ⊥
