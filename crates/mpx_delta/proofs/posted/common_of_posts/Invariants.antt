use Rattle.std.proofs.Common.{◌-◌}
use Rattle.mpx_board.specs.Looks.{parts_of}
use Rattle.mpx_board.specs.Views.{view_of_lifted, view_of_numbers}
use Rattle.mpx_digest.proofs.Steps.{KeptSoFar}
use Rattle.mpx_delta.specs.Posted.{least_context}
use Rattle.mpx_delta.proofs.posted.common_of_posts.Given as goal

-- the least numbers of the contexts so far
abbrev pub invariant-loop-name : goal.invariant-loop-name
invariant-loop-name l = KeptSoFar (least_context (parts_of l.said).1 (l.processes - 1)) view_of_lifted view_of_numbers l.name-items l.made.items l.name-index
