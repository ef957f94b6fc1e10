use Rattle.std.proofs.Common.{◌≡◌, ◌∷◌, drop, fold}
use Rattle.mpx_board.specs.Boards.{Front, join, join_all, only}
use Rattle.mpx_board.specs.Looks.{look}
use Rattle.mpx_node.specs.Nodes.{births_of}
use Rattle.mpx_node.proofs.results.harvest_part.Given as goal

-- what the part tells so far, with the births that are left, is all of it
abbrev pub invariant-loop-child : goal.invariant-loop-child
invariant-loop-child l = fold join (look l.part) (births_of (drop l.child-index l.made)) ≡ join_all (only (Front l.name l.fn.me l.number) ∷ births_of l.made)
