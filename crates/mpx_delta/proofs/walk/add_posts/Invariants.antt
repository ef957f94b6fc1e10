use Rattle.std.proofs.Common.{take}
use Rattle.std.specs.Prelude.{All}
use Rattle.join_core.specs.FlatSeen.{flat_view}
use Rattle.mpx_delta.specs.Facts.{SaysPost}
use Rattle.mpx_delta.specs.Pieces.{AddsPieces}
use Rattle.mpx_delta.proofs.walk.add_posts.Given as goal

-- the pieces of the entries so far
abbrev pub invariant-loop-process : goal.invariant-loop-process
invariant-loop-process l = AddsPieces (λ P. All (λ x. SaysPost P l.name l.call (x.0, flat_view (λ v. v) x.1)) (take l.process-index l.process-items)) l.fn.made.items l.made.items
