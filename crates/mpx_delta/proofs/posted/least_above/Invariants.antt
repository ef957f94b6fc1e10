use Rattle.std.proofs.Common.{◌≡◌, ◌-◌}
use Rattle.mpx_board.specs.Views.{view_of_all_acks, view_of_numbers}
use Rattle.mpx_delta.specs.Posted.{least_above}
use Rattle.mpx_delta.proofs.posted.least_above.Given as goal

-- the least of the processes so far
abbrev pub invariant-loop-number : goal.invariant-loop-number
invariant-loop-number l = view_of_numbers l.made ≡ least_above (view_of_all_acks l.acks) l.name l.call (l.number - 1)
