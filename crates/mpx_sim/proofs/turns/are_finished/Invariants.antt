use Rattle.std.proofs.Common.{map}
use Rattle.mpx_sim.specs.Ends.{HaveFinished}
use Rattle.mpx_sim.specs.Shown.{process_of}
use Rattle.mpx_sim.proofs.turns.are_finished.Given as goal

abbrev pub invariant-loop-p : goal.invariant-loop-p
invariant-loop-p l = HaveFinished l.p (map process_of l.processes)
