use Rattle.mpx_board.specs.Views.{view_of_acks, view_of_lifted}
use Rattle.mpx_delta.specs.Lean.{lean_context}
use Rattle.mpx_delta.proofs.InPlace.{PlacedSoFar}
use Rattle.mpx_delta.proofs.places.lean_places.Given as goal

-- the contexts so far with what was made at its places
abbrev pub invariant-loop-place : goal.invariant-loop-place
invariant-loop-place l = PlacedSoFar (lean_context (view_of_acks l.digest)) view_of_lifted l.entries l.made.items l.place
