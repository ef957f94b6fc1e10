use Rattle.std.proofs.Common.{◌≡◌, ◌<◌, ◌≤◌, ℕ, Some, false, map}
use Rattle.std.specs.Prelude.{slice_get}
use Rattle.mpx_num.specs.Own.{operation_of}
use Rattle.mpx_sim.specs.declared.process.Process.{Process}
use Rattle.mpx_sim.specs.Shown.{process_of}
use Rattle.mpx_sim.specs.SideBySide.{GoesOn, IsReady, taken}
use Rattle.mpx_sim.proofs.side_by_side.go_on_in_turn.Given as goal

abbrev pub invariant-loop-place : goal.invariant-loop-place
invariant-loop-place g l = record {
  done : (q : ℕ) (x y : Process) → q < l.place → slice_get l.fn.processes q ≡ Some x → slice_get l.processes q ≡ Some y → y.notes.failed ≡ false
      → GoesOn (map (λ b. let o = goal.OwnOp-dyn g (b.vtable, b.value) in operation_of (o.word_bytes b.value) (o.fits_type b.value) (o.combination b.value)) l.ops.list.items) l.turn.ranks q (taken q l.turn.number l.turn.frames.now (process_of x)) (process_of y) × IsReady y;
  rest : (q : ℕ) (y : Process) → l.place ≤ q → slice_get l.processes q ≡ Some y → slice_get l.fn.processes q ≡ Some y;
}
