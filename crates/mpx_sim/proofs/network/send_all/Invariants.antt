use Rattle.std.proofs.Common.{◌≡◌, ◌++◌, ◌≤◌, drop, map, Some, ℕ}
use Rattle.std.specs.Prelude.{slice_get}
use Rattle.mpx_sim.specs.declared.process.Process.{Process}
use Rattle.mpx_sim.specs.Shown.{frames_of, process_of, schedule_of}
use Rattle.mpx_sim.specs.SideBySide.{AreReady, to_send}
use Rattle.mpx_sim.specs.Turns.{drawn_for, joined, those_out}
use Rattle.mpx_sim.proofs.network.send_all.Given as goal

-- the lists that are left, behind what is out, come to the same as all of them
abbrev pub invariant-loop-p : goal.invariant-loop-p
invariant-loop-p g l = record {
  same : map process_of l.processes ≡ map process_of l.fn.processes;
  ready : AreReady l.fn.processes → AreReady l.processes;
  rest : (q : ℕ) (x : Process) → l.p ≤ q → slice_get l.processes q ≡ Some x → slice_get l.fn.processes q ≡ Some x;
  frames : frames_of l.network ++ those_out (schedule_of l.network.schedule) (joined (drop l.p (map to_send l.fn.processes))) ≡ frames_of l.fn.network ++ those_out (schedule_of l.fn.network.schedule) (joined (map to_send l.fn.processes));
  schedule : drawn_for (joined (drop l.p (map to_send l.fn.processes))) (schedule_of l.network.schedule) ≡ drawn_for (joined (map to_send l.fn.processes)) (schedule_of l.fn.network.schedule);
}
