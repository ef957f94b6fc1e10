use Rattle.std.proofs.Common.{◌≡◌}
use Rattle.mpx_bus.proofs.frame.frames_with.Given as goal

-- the frames so far have these bytes
abbrev pub invariant-loop-bytes : goal.invariant-loop-bytes
invariant-loop-bytes l = l.made.items ≡ l.yielded
