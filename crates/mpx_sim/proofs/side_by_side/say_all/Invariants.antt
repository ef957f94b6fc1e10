use Rattle.std.proofs.Common.{◌≡◌, ◌<◌, ◌≤◌, ℕ, Some, length}
use Rattle.std.specs.Prelude.{slice_get}
use Rattle.mpx_sim.specs.declared.process.Process.{Process}
use Rattle.mpx_sim.specs.SideBySide.{Makes}
use Rattle.mpx_sim.proofs.side_by_side.say_all.Given as goal

abbrev pub invariant-loop-place : goal.invariant-loop-place
invariant-loop-place l = record {
  done : (q : ℕ) (x y : Process) → q < l.place → slice_get l.fn.processes q ≡ Some x → slice_get l.processes q ≡ Some y → Makes l.schedule.shifts.items (length l.fn.processes) l.turn x y;
  rest : (q : ℕ) (y : Process) → l.place ≤ q → slice_get l.processes q ≡ Some y → slice_get l.fn.processes q ≡ Some y;
}
