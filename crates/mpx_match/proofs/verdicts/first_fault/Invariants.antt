use Rattle.std.proofs.Common.{◌≡◌, List, drop, map}
use Rattle.mpx_num.specs.declared.own.Operation.{Operation}
use Rattle.mpx_num.specs.Own.{operation_of}
use Rattle.mpx_match.specs.Verdicts.{first_fault, verdict}
use Rattle.mpx_match.proofs.verdicts.first_fault.Given as goal

abbrev pub invariant-loop-question : goal.invariant-loop-question
invariant-loop-question g l =
    let ops : List Operation = map (λ b. let o = goal.OwnOp-dyn g (b.vtable, b.value) in operation_of (o.word_bytes b.value) (o.fits_type b.value) (o.combination b.value)) l.ops.list.items in
    first_fault ops l.birth.topology (drop l.question-index l.question-items) l.row ≡ verdict ops l.birth.topology l.row
