use Rattle.std.proofs.Common.{◌≡◌, ◌++◌, length}
use Rattle.join_nest.specs.Seen.{seen}
use Rattle.mpx_format.specs.Fields.{process, some_calls}
use Rattle.mpx_encode.specs.Entries.{entries_spelled}
use Rattle.mpx_encode.proofs.write_process_numbers.write_fours.Given as goal

-- what is written, and what is left to write, is the whole
abbrev pub invariant-loop-four : goal.invariant-loop-four
invariant-loop-four l = l.out ++ entries_spelled process some_calls (seen (λ n. n.0) l.rest) ≡ l.fn.out ++ entries_spelled process some_calls (seen (λ n. n.0) l.rows)

abbrev pub decreases-loop-four : goal.decreases-loop-four
decreases-loop-four l = length l.rest
