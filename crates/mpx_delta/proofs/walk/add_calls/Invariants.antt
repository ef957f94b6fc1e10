use Rattle.std.proofs.Common.{take}
use Rattle.std.specs.Prelude.{All}
use Rattle.mpx_board.specs.Views.{view_of_call}
use Rattle.mpx_delta.specs.Facts.{SaysCall}
use Rattle.mpx_delta.specs.Pieces.{AddsPieces}
use Rattle.mpx_delta.proofs.walk.add_calls.Given as goal

-- the pieces of the entries so far
abbrev pub invariant-loop-call : goal.invariant-loop-call
invariant-loop-call l = AddsPieces (λ P. All (λ x. SaysCall P l.name (x.0, view_of_call x.1)) (take l.call-index l.call-items)) l.fn.made.items l.made.items
