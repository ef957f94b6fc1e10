use Rattle.std.proofs.Common.{◌≡◌, ◌++◌, take}
use Rattle.std.specs.List.{flat_map}
use Rattle.mpx_encode.proofs.write_entries.write_list.Given as goal

abbrev pub invariant-loop-key : goal.invariant-loop-key
invariant-loop-key g l = l.out ≡ l.fn.out ++ flat_map g.K.WriteKey.format.spelling (take l.key-index l.list)
