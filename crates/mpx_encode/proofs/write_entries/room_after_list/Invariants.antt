use Rattle.std.proofs.Common.{◌≡◌, true, take, length, Some}
use Rattle.std.specs.List.{flat_map, list_all}
use Rattle.mpx_encode.specs.Room.{room_left}
use Rattle.mpx_encode.proofs.write_entries.room_after_list.Given as goal

abbrev pub invariant-loop-key : goal.invariant-loop-key
invariant-loop-key g l = record {
  left : room_left (length (flat_map g.K.WriteKey.format.spelling (take l.key-index l.list))) l.room ≡ Some l.left;
  fits : list_all g.K.WriteKey.format.fits (take l.key-index l.list) ≡ true;
}
