use Rattle.std.proofs.Common.{◌≡◌, map}
use Rattle.mpx_sim.specs.Shown.{process_of}
use Rattle.mpx_sim.specs.SideBySide.{AreReady}
use Rattle.mpx_sim.proofs.network.hand_out.Given as goal

abbrev pub invariant-loop-p : goal.invariant-loop-p
invariant-loop-p l = record {
  same : map process_of l.processes ≡ map process_of l.fn.processes;
  ready : AreReady l.fn.processes → AreReady l.processes;
}
