use Rattle.std.proofs.Common.{◌≡◌, take}
use Rattle.mpx_name.proofs.names.copied.Given as goal

abbrev pub invariant-loop-step : goal.invariant-loop-step
invariant-loop-step l = l.made.items ≡ take l.step-index l.steps
