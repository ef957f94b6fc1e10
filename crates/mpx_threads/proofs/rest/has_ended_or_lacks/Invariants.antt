use Rattle.std.proofs.Common.{◌≡◌, ◌<◌, ℕ, Some}
use Rattle.std.specs.Prelude.{slice_get}
use Rattle.mpx_bus.specs.Ports.{node_in}
use Rattle.mpx_meaning.specs.Ends.{asked_view}
use Rattle.mpx_meaning.specs.declared.end.AskedCall.{AskedCall}
use Rattle.mpx_threads.specs.Rest.{Lacks}
use Rattle.mpx_threads.proofs.rest.has_ended_or_lacks.Given as goal

abbrev pub invariant-loop-i : goal.invariant-loop-i
invariant-loop-i l = (k : ℕ) (asked : AskedCall) → k < l.i → slice_get l.calls k ≡ Some asked → Lacks (node_in l.worked.port) (asked_view asked).1 → ⊥
