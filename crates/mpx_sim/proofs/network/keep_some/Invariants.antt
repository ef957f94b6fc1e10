use Rattle.std.proofs.Common.{◌≡◌, ◌+◌, length}
use Rattle.mpx_sim.specs.Shown.{frames_of, schedule_of}
use Rattle.mpx_sim.specs.SideBySide.{left_from}
use Rattle.mpx_sim.specs.Turns.{drawn_again_for, those_left}
use Rattle.mpx_sim.proofs.network.keep_some.Given as goal

abbrev pub invariant-loop : goal.invariant-loop
invariant-loop l = record {
  left : left_from l.fn.turn l.i (frames_of l.network) ≡ those_left l.fn.turn (frames_of l.fn.network) (schedule_of l.fn.network.schedule);
  near : length l.network.frames.items + l.counter ≡ length l.fn.network.frames.items + l.i;
  schedule : schedule_of l.network.schedule ≡ drawn_again_for l.fn.turn (frames_of l.fn.network) (schedule_of l.fn.network.schedule);
}
