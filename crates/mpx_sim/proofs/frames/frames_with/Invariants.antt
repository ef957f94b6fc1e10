use Rattle.std.proofs.Common.{◌≡◌, map}
use Rattle.mpx_format.specs.Decoding.{decoded, shown}
use Rattle.mpx_sim.specs.Shown.{frame_of}
use Rattle.mpx_sim.specs.Turns.{one_a_turn}
use Rattle.mpx_sim.proofs.frames.frames_with.Given as goal

-- the frames so far are those of these bytes
abbrev pub invariant-loop-bytes : goal.invariant-loop-bytes
invariant-loop-bytes l = map frame_of l.made.items ≡ one_a_turn l.from l.to l.turn (map (λ bytes. shown (decoded bytes)) l.yielded)
