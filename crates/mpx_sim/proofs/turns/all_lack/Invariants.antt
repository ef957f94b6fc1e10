use Rattle.std.proofs.Common.{List, ℕ, map}
use Rattle.mpx_num.specs.Own.{operation_of}
use Rattle.mpx_statement.specs.declared.statement.Statement.{Statement}
use Rattle.mpx_sim.specs.Ends.{AllLack}
use Rattle.mpx_sim.specs.Shown.{process_of}
use Rattle.mpx_sim.specs.SideBySide.{AreReady}
use Rattle.mpx_sim.specs.Turns.{Alone, FrameView, Moment}
use Rattle.mpx_sim.specs.Running.{IsUnderWay}
use Rattle.mpx_sim.proofs.turns.all_lack.Given as goal

abbrev pub invariant-loop-rank : goal.invariant-loop-rank
invariant-loop-rank g l = record {
  run : (script : List (List Statement)) (ranks size : ℕ) (begun : Moment) (frames : List FrameView) → IsUnderWay (map (λ b. let o = goal.OwnOp-dyn g (b.vtable, b.value) in operation_of (o.word_bytes b.value) (o.fits_type b.value) (o.combination b.value)) l.ops.list.items) script ranks size begun Alone (map process_of l.fn.processes) frames → IsUnderWay (map (λ b. let o = goal.OwnOp-dyn g (b.vtable, b.value) in operation_of (o.word_bytes b.value) (o.fits_type b.value) (o.combination b.value)) l.ops.list.items) script ranks size begun Alone (map process_of l.processes) frames;
  lack : AllLack l.rank (map process_of l.processes);
  ready : AreReady l.fn.processes → AreReady l.processes;
}
