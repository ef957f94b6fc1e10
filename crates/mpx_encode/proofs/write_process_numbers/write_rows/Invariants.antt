use Rattle.std.proofs.Common.{◌≡◌, ◌++◌, take}
use Rattle.join_nest.specs.Seen.{seen}
use Rattle.mpx_format.specs.Fields.{process, some_calls}
use Rattle.mpx_encode.specs.Entries.{entries_spelled}
use Rattle.mpx_encode.proofs.write_process_numbers.write_rows.Given as goal

-- behind the fours
abbrev pub invariant-loop-row : goal.invariant-loop-row
invariant-loop-row l = l.out ≡ l.initial.out ++ entries_spelled process some_calls (take l.row-index (seen (λ n. n.0) l.rest))
