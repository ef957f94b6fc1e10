use Rattle.std.proofs.Common.{◌≡◌, ◌++◌, take}
use Rattle.join_nest.specs.Seen.{seen}
use Rattle.mpx_board.specs.Views.{view_of_acks}
use Rattle.mpx_format.specs.Fields.{acks, process}
use Rattle.mpx_encode.specs.Entries.{entries_spelled}
use Rattle.mpx_encode.proofs.write_kept.write_kept.Given as goal

abbrev pub invariant-loop-entry : goal.invariant-loop-entry
invariant-loop-entry l = l.out ≡ l.fn.out ++ entries_spelled process acks (take l.entry-index (seen view_of_acks l.all))
