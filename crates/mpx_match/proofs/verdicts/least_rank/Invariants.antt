use Rattle.std.proofs.Common.{List, map}
use Rattle.mpx_num.specs.declared.own.Operation.{Operation}
use Rattle.mpx_num.specs.Own.{operation_of}
use Rattle.mpx_match.specs.Questions.{is_faulty}
use Rattle.mpx_match.proofs.Least.{NoneBelow}
use Rattle.mpx_match.proofs.verdicts.least_rank.Given as goal

abbrev pub invariant-loop-rank : goal.invariant-loop-rank
invariant-loop-rank g l =
    let ops : List Operation = map (λ b. let o = goal.OwnOp-dyn g (b.vtable, b.value) in operation_of (o.word_bytes b.value) (o.fits_type b.value) (o.combination b.value)) l.ops.list.items in
    NoneBelow (is_faulty ops l.birth.topology l.question l.row) l.row l.rank
