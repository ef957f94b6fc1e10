use Rattle.std.proofs.Common.{◌≡◌, true, take}
use Rattle.join_nest.specs.Seen.{seen}
use Rattle.mpx_format.specs.Fields.{process, some_calls}
use Rattle.mpx_encode.specs.Entries.{both_pass}
use Rattle.mpx_encode.proofs.write_process_numbers.pass_limits.Given as goal

abbrev pub invariant-loop-row : goal.invariant-loop-row
invariant-loop-row l = both_pass process.fits some_calls.fits (take l.row-index (seen (λ n. n.0) l.rows)) ≡ true
