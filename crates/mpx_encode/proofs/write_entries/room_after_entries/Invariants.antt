use Rattle.std.proofs.Common.{◌≡◌, true, take, length, Some}
use Rattle.join_nest.specs.Seen.{seen}
use Rattle.mpx_encode.specs.Room.{room_left}
use Rattle.mpx_encode.specs.Entries.{entries_spelled, both_pass}
use Rattle.mpx_encode.proofs.write_entries.room_after_entries.Given as goal

abbrev pub invariant-loop-entry : goal.invariant-loop-entry
invariant-loop-entry g l =
    let es = take l.entry-index (seen g.J.WriteValue.seen l.entries) in
    record {
      left : room_left (length (entries_spelled g.K.WriteKey.format g.J.WriteValue.format es)) l.room ≡ Some l.left;
      fits : both_pass g.K.WriteKey.format.fits g.J.WriteValue.format.fits es ≡ true;
    }
