use Rattle.std.proofs.Common.{◌≡◌, map}
use Rattle.mpx_threads.specs.declared.worker.Worked.{Worked}
use Rattle.mpx_threads.proofs.run.parts_of.Given as goal

abbrev pub invariant-loop-one : goal.invariant-loop-one
invariant-loop-one l = record {
  ends : l.ends.items ≡ map (λ (w : Worked). w.end) l.yielded;
  ports : l.ports.items ≡ map (λ (w : Worked). w.port) l.yielded;
}
