use Rattle.std.proofs.Common.{◌≡◌, ◌++◌, map}
use Rattle.mpx_sim.specs.Shown.{frame_of, frames_of, schedule_of}
use Rattle.mpx_sim.specs.Turns.{drawn_for, those_out}
use Rattle.mpx_sim.proofs.network.send_each.Given as goal

abbrev pub invariant-loop-frame : goal.invariant-loop-frame
invariant-loop-frame g l = record {
  frames : frames_of l.network ≡ frames_of l.fn.network ++ those_out (schedule_of l.fn.network.schedule) (map frame_of l.yielded);
  schedule : schedule_of l.network.schedule ≡ drawn_for (map frame_of l.yielded) (schedule_of l.fn.network.schedule);
}
