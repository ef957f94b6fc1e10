use Rattle.std.proofs.Common.{◌≡◌, true, take, length, Some}
use Rattle.join_nest.specs.Seen.{seen}
use Rattle.mpx_board.specs.Views.{view_of_acks}
use Rattle.mpx_format.specs.Fields.{acks, process}
use Rattle.mpx_encode.specs.Room.{room_left}
use Rattle.mpx_encode.specs.Entries.{entries_spelled, both_pass}
use Rattle.mpx_encode.proofs.write_kept.room_after_all.Given as goal

abbrev pub invariant-loop-entry : goal.invariant-loop-entry
invariant-loop-entry l =
    let es = take l.entry-index (seen view_of_acks l.all) in
    record {
      left : room_left (length (entries_spelled process acks es)) l.room ≡ Some l.left;
      fits : both_pass process.fits acks.fits es ≡ true;
    }
