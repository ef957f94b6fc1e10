use Rattle.std.proofs.Common.{◌≡◌, map}
use Rattle.std.specs.Prelude.{slice_get}
use Rattle.mpx_meaning.specs.Ends.{end_view, end_waits}
use Rattle.mpx_meaning.specs.Reports.{which}
use Rattle.mpx_meaning.proofs.report.waiting_of.Given as goal

abbrev pub invariant-loop-p : goal.invariant-loop-p
invariant-loop-p l = l.waiting.items ≡ which (λ p. end_waits (slice_get (map end_view l.ends) p)) l.p
