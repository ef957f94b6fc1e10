use Rattle.std.proofs.Common.{◌<◌, map, List, ℕ, Some, ◌≡◌}
use Rattle.std.specs.Prelude.{slice_get}
use Rattle.mpx_num.specs.declared.own.Operation.{Operation}
use Rattle.mpx_meaning.specs.Evaluation.{Script}
use Rattle.mpx_sim.specs.Draws.{ScheduleView}
use Rattle.mpx_sim.specs.Running.{HasCome, IsUnderWay}
use Rattle.mpx_sim.specs.Shown.{frames_of, process_of}
use Rattle.mpx_sim.specs.SideBySide.{AreReady}
use Rattle.mpx_sim.specs.Turns.{Coming, FrameView, Moment}
use Rattle.mpx_sim.proofs.network.deliver.Given as goal

abbrev pub invariant-loop-i : goal.invariant-loop-i
invariant-loop-i g l = record {
  run : (ops : List Operation) (script : Script) (ranks size : ℕ) (begun : Moment) (t : ScheduleView) → IsUnderWay ops script ranks size begun (Coming l.turn t) (map process_of l.fn.processes) (frames_of l.network) → IsUnderWay ops script ranks size begun (Coming l.turn t) (map process_of l.processes) (frames_of l.network);
  ready : AreReady l.fn.processes → AreReady l.processes;
  came : (k : ℕ) (f : FrameView) → k < l.i → slice_get (frames_of l.network) k ≡ Some f → HasCome l.turn (map process_of l.processes) f;
}
