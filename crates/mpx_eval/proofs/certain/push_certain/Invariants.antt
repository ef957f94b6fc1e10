use Rattle.std.proofs.Common.{◌≡◌, ◌++◌, drop, map}
use Rattle.mpx_num.specs.Own.{operation_of}
use Rattle.mpx_eval.specs.Certain.{certain_from}
use Rattle.mpx_eval.specs.Found.{complaint_view}
use Rattle.mpx_eval.proofs.certain.push_certain.Given as goal

abbrev pub invariant-loop-place : goal.invariant-loop-place
invariant-loop-place g l = map complaint_view l.found.items ++ certain_from (map (λ b. let o = goal.OwnOp-dyn g (b.vtable, b.value) in operation_of (o.word_bytes b.value) (o.fits_type b.value) (o.combination b.value)) l.ops.list.items) l.ranks l.rank l.place (drop l.place l.statements)
    ≡ map complaint_view l.fn.found.items ++ certain_from (map (λ b. let o = goal.OwnOp-dyn g (b.vtable, b.value) in operation_of (o.word_bytes b.value) (o.fits_type b.value) (o.combination b.value)) l.ops.list.items) l.ranks l.rank 0 l.statements
