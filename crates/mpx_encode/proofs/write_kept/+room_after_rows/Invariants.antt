use Rattle.std.proofs.Common.{length}
use Rattle.mpx_encode.proofs.write_kept.+room_after_rows.Given as goal

abbrev pub decreases-room_after_rows : goal.decreases-room_after_rows
decreases-room_after_rows l = length l.pieces.now
