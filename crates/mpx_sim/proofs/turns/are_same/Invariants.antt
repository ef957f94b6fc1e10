use Rattle.std.proofs.Common.{◌≡◌, ◌<◌, ℕ, Some, map}
use Rattle.std.specs.Prelude.{slice_get}
use Rattle.mpx_sim.specs.Running.{ProcessView}
use Rattle.mpx_sim.specs.Shown.{process_of}
use Rattle.mpx_sim.proofs.turns.are_same.Given as goal

abbrev pub invariant-loop-p : goal.invariant-loop-p
invariant-loop-p l = (q : ℕ) (first other : ProcessView) → q < l.p → slice_get (map process_of l.processes) 0 ≡ Some first → slice_get (map process_of l.processes) q ≡ Some other → other.node.board ≡ first.node.board
