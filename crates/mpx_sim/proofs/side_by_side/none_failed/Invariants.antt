use Rattle.std.proofs.Common.{◌≡◌, ◌<◌, ℕ, false, Some}
use Rattle.std.specs.Prelude.{slice_get}
use Rattle.mpx_sim.specs.declared.process.Process.{Process}
use Rattle.mpx_sim.proofs.side_by_side.none_failed.Given as goal

abbrev pub invariant-loop-process : goal.invariant-loop-process
invariant-loop-process l = (i : ℕ) (p : Process) → i < l.process-index → slice_get l.processes i ≡ Some p → p.notes.failed ≡ false
