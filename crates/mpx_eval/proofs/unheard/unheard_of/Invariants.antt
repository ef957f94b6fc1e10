use Rattle.std.proofs.Common.{◌≡◌, map}
use Rattle.std.specs.Prelude.{slice_get}
use Rattle.mpx_num.specs.Own.{operation_of}
use Rattle.mpx_eval.specs.Carrying.{shown}
use Rattle.mpx_eval.specs.Complaints.{complaints_upto}
use Rattle.mpx_eval.specs.Found.{complaint_view}
use Rattle.mpx_eval.specs.Tables.{table_of}
use Rattle.mpx_eval.specs.Unheard.{unheard_found}
use Rattle.mpx_eval.proofs.unheard.unheard_of.Given as goal

abbrev pub invariant-loop-p : goal.invariant-loop-p
invariant-loop-p g l = map complaint_view l.found.items ≡ complaints_upto (λ p. unheard_found (map (λ b. let o = goal.OwnOp-dyn g (b.vtable, b.value) in operation_of (o.word_bytes b.value) (o.fits_type b.value) (o.combination b.value)) l.ops.list.items) l.script.statements (table_of l.table) p (slice_get (map shown l.places) p)) l.p
