use Rattle.std.proofs.Common.{◌≡◌, ◌++◌, drop, map}
use Rattle.mpx_eval.specs.Complaints.{complaints_at}
use Rattle.mpx_eval.specs.Found.{complaint_view}
use Rattle.mpx_eval.proofs.complaints.push_complaints.Given as goal

abbrev pub invariant-loop-line : goal.invariant-loop-line
invariant-loop-line l = map complaint_view l.found.items ++ complaints_at l.rank l.statements (drop l.line-index l.lines) l.rest ≡ map complaint_view l.fn.found.items ++ complaints_at l.rank l.statements l.lines l.origins
