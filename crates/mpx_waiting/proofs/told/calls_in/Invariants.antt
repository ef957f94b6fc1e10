use Rattle.std.proofs.Common.{◌≡◌, ◌+◌, ◌*◌, ◌^◌, ◌≤◌, drop, map}
use Rattle.mpx_eval.specs.Found.{waiting_view}
use Rattle.mpx_waiting.specs.ToldLines.{calls_in}
use Rattle.mpx_waiting.proofs.told.calls_in.Given as goal

abbrev pub invariant-loop-waiting : goal.invariant-loop-waiting
invariant-loop-waiting l = (l.calls + calls_in (map waiting_view (drop l.waiting-index l.found)) ≡ calls_in (map waiting_view l.found)) × (l.calls ≤ l.waiting-index * 2 ^ 64)
