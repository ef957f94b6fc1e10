use Rattle.std.proofs.Common.{◌≡◌, map}
use Rattle.std.specs.Prelude.{slice_get}
use Rattle.mpx_eval.specs.Complaints.{complaints_upto}
use Rattle.mpx_eval.specs.Found.{complaint_view, complaints_found}
use Rattle.mpx_eval.specs.Carrying.{shown}
use Rattle.mpx_eval.proofs.complaints.complaints_of.Given as goal

abbrev pub invariant-loop-p : goal.invariant-loop-p
invariant-loop-p l = map complaint_view l.found.items ≡ complaints_upto (λ p. complaints_found l.script.statements p (slice_get (map shown l.places) p)) l.p
