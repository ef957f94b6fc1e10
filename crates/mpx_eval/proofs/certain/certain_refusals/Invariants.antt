use Rattle.std.proofs.Common.{◌≡◌, [], map}
use Rattle.std.specs.Prelude.{slice_index_or}
use Rattle.mpx_num.specs.Own.{operation_of}
use Rattle.mpx_eval.specs.Certain.{certain_from}
use Rattle.mpx_eval.specs.Complaints.{complaints_upto}
use Rattle.mpx_eval.specs.Found.{complaint_view}
use Rattle.mpx_eval.proofs.certain.certain_refusals.Given as goal

abbrev pub invariant-loop-p : goal.invariant-loop-p
invariant-loop-p g l = map complaint_view l.found.items ≡ complaints_upto (λ p. certain_from (map (λ b. let o = goal.OwnOp-dyn g (b.vtable, b.value) in operation_of (o.word_bytes b.value) (o.fits_type b.value) (o.combination b.value)) l.ops.list.items) l.script.ranks p 0 (slice_index_or l.script.statements p [])) l.p
