use Rattle.std.proofs.Common.{◌≡◌, ◌++◌, drop, map}
use Rattle.mpx_num.specs.Own.{operation_of}
use Rattle.mpx_meaning.specs.Standing.{looked_up}
use Rattle.mpx_eval.specs.Found.{complaint_view}
use Rattle.mpx_eval.specs.Tables.{answer_on, table_of}
use Rattle.mpx_eval.specs.Unheard.{unheard_from}
use Rattle.mpx_eval.proofs.unheard.push_unheard.Given as goal

abbrev pub invariant-loop-place : goal.invariant-loop-place
invariant-loop-place g l = map complaint_view l.found.items ++ unheard_from l.rank (looked_up l.requests) (answer_on (map (λ b. let o = goal.OwnOp-dyn g (b.vtable, b.value) in operation_of (o.word_bytes b.value) (o.fits_type b.value) (o.combination b.value)) l.ops.list.items) (table_of l.table) l.me) l.place (drop l.place l.statements)
    ≡ map complaint_view l.fn.found.items ++ unheard_from l.rank (looked_up l.requests) (answer_on (map (λ b. let o = goal.OwnOp-dyn g (b.vtable, b.value) in operation_of (o.word_bytes b.value) (o.fits_type b.value) (o.combination b.value)) l.ops.list.items) (table_of l.table) l.me) 0 l.statements
