use Rattle.std.proofs.Common.{◌≡◌, drop}
use Rattle.mpx_board.specs.Views.{view_of_numbers}
use Rattle.mpx_digest.specs.Beyond.{have_all}
use Rattle.mpx_digest.proofs.quiet.have_all.Given as goal

-- it is as those say that are still ahead
abbrev pub invariant-loop-i : goal.invariant-loop-i
invariant-loop-i l = have_all (view_of_numbers l.numbers) l.least (drop l.i l.members) ≡ have_all (view_of_numbers l.numbers) l.least l.members
