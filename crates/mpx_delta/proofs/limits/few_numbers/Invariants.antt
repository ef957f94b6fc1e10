use Rattle.std.proofs.Common.{◌<◌, take}
use Rattle.std.specs.Prelude.{All}
use Rattle.mpx_delta.proofs.limits.few_numbers.Given as goal

-- those so far are below 64
abbrev pub invariant-loop-entry : goal.invariant-loop-entry
invariant-loop-entry l = All (λ e. e.0 < 64) (take l.entry-index l.entry-items)
