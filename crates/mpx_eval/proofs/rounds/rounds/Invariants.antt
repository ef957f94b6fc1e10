use Rattle.std.proofs.Common.{map, List}
use Rattle.mpx_num.specs.declared.own.Operation.{Operation}
use Rattle.mpx_num.specs.Own.{operation_of}
use Rattle.mpx_eval.specs.Rounds.{Rounds, all_left}
use Rattle.mpx_eval.specs.Carrying.{shown}
use Rattle.mpx_eval.specs.Tables.{table_of}
use Rattle.mpx_eval.proofs.rounds.rounds.Given as goal

abbrev pub invariant-loop : goal.invariant-loop
invariant-loop g l =
    let ops : List Operation = map (λ b. let o = goal.OwnOp-dyn g (b.vtable, b.value) in operation_of (o.word_bytes b.value) (o.fits_type b.value) (o.combination b.value)) l.ops.list.items in
    Rounds ops (map shown l.fn.ranks) (table_of l.fn.table) (map shown l.ranks) (table_of l.table)

abbrev pub decreases-loop : goal.decreases-loop
decreases-loop g l = all_left (map shown l.ranks)
