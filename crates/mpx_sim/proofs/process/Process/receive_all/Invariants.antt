use Rattle.std.proofs.Common.{◌≡◌, length}
use Rattle.mpx_sim.specs.Shown.{process_of}
use Rattle.mpx_sim.specs.SideBySide.{IsReady, taken}
use Rattle.mpx_sim.proofs.process.Process.receive_all.Given as goal

-- what is left to be taken leads to the same
abbrev pub invariant-loop-rest : goal.invariant-loop-rest
invariant-loop-rest l = record {
  took : taken l.place l.turn l.rest (process_of l.self) ≡ taken l.place l.turn l.frames (process_of l.fn.self);
  ready : IsReady l.self;
}

abbrev pub decreases-loop-rest : goal.decreases-loop-rest
decreases-loop-rest l = length l.rest
