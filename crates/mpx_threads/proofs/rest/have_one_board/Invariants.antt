use Rattle.std.proofs.Common.{◌≡◌, ◌<◌, ℕ, Some}
use Rattle.std.specs.Prelude.{slice_get}
use Rattle.mpx_bus.specs.Ports.{node_in}
use Rattle.mpx_threads.specs.declared.worker.Worked.{Worked}
use Rattle.mpx_threads.proofs.rest.have_one_board.Given as goal

abbrev pub invariant-loop-p : goal.invariant-loop-p
invariant-loop-p l = (q : ℕ) (first other : Worked) → q < l.p → slice_get l.worked 0 ≡ Some first → slice_get l.worked q ≡ Some other → (node_in other.port).board ≡ (node_in first.port).board
