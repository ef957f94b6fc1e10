use Rattle.std.proofs.Common.{◌≡◌, ◌++◌, take}
use Rattle.join_nest.specs.Seen.{seen}
use Rattle.mpx_encode.specs.Entries.{entries_spelled}
use Rattle.mpx_encode.proofs.write_entries.write_entries.Given as goal

abbrev pub invariant-loop-entry : goal.invariant-loop-entry
invariant-loop-entry g l = l.out ≡ l.fn.out ++ entries_spelled g.K.WriteKey.format g.J.WriteValue.format (take l.entry-index (seen g.J.WriteValue.seen l.entries))
